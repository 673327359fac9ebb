-- HDU by HDU.
use Rattle.fz_laws.specs.OutputsTaken.{CutsLaws}
use Rattle.fz_laws.proofs.PackedCuts.{cuts_are_refused, cuts_are_sound, faults_are_alike}
use Rattle.fz_laws.proofs.outputs.packed_refusal_law.Goals as goal

pub returns : goal.returns
returns c =
    let laws : CutsLaws = c.cuts_laws.ensures in
    record { refused = cuts_are_refused laws; sound = cuts_are_sound laws; options = faults_are_alike laws }
