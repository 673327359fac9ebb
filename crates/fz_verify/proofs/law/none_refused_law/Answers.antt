-- By the laws of tiles and of packed headers.
use Rattle.fz_verify.proofs.Unrefused.{unrefused}
use Rattle.fz_verify.proofs.law.none_refused_law.Goals as goal

pub returns : goal.returns
returns c = unrefused c.one_fault_law.ensures.none c.packed_image_law.ensures.unpack
