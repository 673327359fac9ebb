-- No more elements than bytes.
use Rattle.std.proofs.Common.{arith}
use Rattle.std.proofs.Math.Nat.{div-le_self}
use Rattle.fz_target.proofs.measure.coded_count.Goals as goal

pub returns-in-Coded-clause-most : goal.returns-in-Coded-clause-most
returns-in-Coded-clause-most c = omega (arith, c.from.ensures, div-le_self c.args.slot.now.job.len c.coded_unit.result)
