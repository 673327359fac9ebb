-- The cards are counted.
use Rattle.std.proofs.Common.{arith}
use Rattle.fz_image.proofs.Headers.{packed_count}
use Rattle.fz_image.proofs.header.cards_before_sums.Goals as goal

pub returns : goal.returns
returns c = λ cards s same. omega (arith, packed_count cards c.args.plan.now s, c.parameter_count.ensures.count, same)
