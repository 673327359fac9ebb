use Rattle.std.proofs.Common.{arith}
use Rattle.fz_card.proofs.DecimalNumbers.{power-positive}
use Rattle.fz_card.proofs.decimal_writing.decimal_line.Goals as goal

pub nonzero_div-size : goal.nonzero_div-size
nonzero_div-size c = omega (arith, c.power_of_ten.ensures.value, power-positive c.args.decimal.places)
