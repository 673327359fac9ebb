-- The number after a stem is above 0.
use Rattle.std.proofs.Common.{◌≡◌, ◌≤◌, codes, Some, arith, rules}
use Rattle.fz_card.specs.Naming.{number_behind}
use Rattle.fz_cut.proofs.moved.shift_by.Goals as goal

pub shift_along-requires-clause-axis : goal.shift_along-requires-clause-axis
shift_along-requires-clause-axis c =
    let is : number_behind (codes "CRPIX") c.args.name.bytes ≡ Some c.in-Some.i = search rules in
    let made = c.numbers_law.ensures.number_made (codes "CRPIX") c.args.name.bytes c.in-Some.i is in
    let low : 1 ≤ c.in-Some.i = omega (arith, made.some) in
    let high : c.in-Some.i ≤ c.args.sieve.now.n = omega arith in
    (low, high)
