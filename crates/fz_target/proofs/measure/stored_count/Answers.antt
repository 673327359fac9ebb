-- No more pixels than bytes.
use Rattle.std.proofs.Common.{arith}
use Rattle.std.proofs.Math.Nat.{div-le_self}
use Rattle.fz_target.proofs.measure.stored_count.Goals as goal

pub returns-in-Stored-clause-most : goal.returns-in-Stored-clause-most
returns-in-Stored-clause-most c = omega (arith, c.from.ensures, div-le_self c.from.result c.pixel_len.result)
