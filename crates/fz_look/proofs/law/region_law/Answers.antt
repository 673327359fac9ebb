-- Axis by axis.
use Rattle.fz_look.proofs.BoxLines.{is_sieve, lengths_are, shape_long, sifts}
use Rattle.fz_look.proofs.law.region_law.Goals as goal

pub returns : goal.returns
returns c = λ shape r few los lens is. let long = shape_long shape r is in (is_sieve shape r few long los lens is, sifts shape r few long los lens is, lengths_are shape r few long los lens is)
