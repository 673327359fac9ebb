use Rattle.std.proofs.Common.{◌+◌, arith}
use Rattle.std.proofs.lemmas.Nat.{pow_below}
use Rattle.fz_bits.proofs.BitsLemmas.{number_bits-one}
use Rattle.fz_bits.proofs.writer.BitWriter.unary.Goals as goal

pub put-requires-clause-fits : goal.put-requires-clause-fits
put-requires-clause-fits c = pow_below 0 (c.args.zeros + 1) (omega arith)

pub returns-then-zeros-lt32-clause-ok : goal.returns-then-zeros-lt32-clause-ok
returns-then-zeros-lt32-clause-ok c = rw (number_bits-one c.args.zeros) at c.put.ensures.ok
