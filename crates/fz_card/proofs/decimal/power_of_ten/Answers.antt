use Rattle.std.proofs.Common.{◌^◌, ◌≤◌, arith}
use Rattle.std.proofs.Math.Nat.{pow-le-pow_right}
use Rattle.fz_card.proofs.decimal.power_of_ten.Goals as goal

pub pow-requires : goal.pow-requires
pow-requires c = let small : 10 ^ c.args.exponent ≤ 10 ^ 28 = pow-le-pow_right {n = 10} (omega arith) c.requires in omega (arith, small)

pub returns-clause-small : goal.returns-clause-small
returns-clause-small c = pow-le-pow_right {n = 10} (omega arith) c.requires
