-- The header of the image is made, and its pixels and the fill come after it.
use Rattle.std.proofs.Common.{take, ap, ◌∙◌, arith}
use Rattle.fz_retile.proofs.reading.image_here.Goals as goal

pub returns-clause-made : goal.returns-clause-made
returns-clause-made c = ap (λ n. take n c.to_plain.new.out) (omega arith) ∙ c.to_plain.ensures.written
