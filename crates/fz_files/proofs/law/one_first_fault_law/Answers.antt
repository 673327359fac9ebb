-- Row by row, and before them the headers.
use Rattle.fz_files.proofs.FaultLemmas.{one_first_fault}
use Rattle.fz_files.proofs.law.one_first_fault_law.Goals as goal

pub returns : goal.returns
returns c = one_first_fault c.one_fault_law.ensures.none c.one_fault_law.ensures.one c.walk_law.ensures.headers c.packed_image_law.ensures.unpack c.packed_image_law.ensures.cut
