-- HDU by HDU.
use Rattle.fz_laws.specs.OutputsTaken.{OutLaws, WalkLaws}
use Rattle.fz_laws.proofs.RestoredFile.{packed_numbers, restored_count, restored_is_found, restored_is_plain}
use Rattle.fz_laws.proofs.outputs.restored_output_law.Goals as goal

pub returns : goal.returns
returns c =
    let laws : OutLaws = c.out_laws.ensures in
    let walks : WalkLaws = c.walk_laws.ensures in
    record { found = restored_is_found laws walks; plain = restored_is_plain laws walks; count = restored_count laws walks; numbers = packed_numbers walks }
