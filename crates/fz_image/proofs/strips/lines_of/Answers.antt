-- The corner of a region that lies within an image is a place of it.
use Rattle.std.proofs.Common.{arith}
use Rattle.fz_image.proofs.strips.lines_of.Goals as goal

pub index-first-requires-clause-at : goal.index-first-requires-clause-at
index-first-requires-clause-at c = λ i near. omega (arith, c.requires.region.positive i near, c.requires.region.inside i near)
