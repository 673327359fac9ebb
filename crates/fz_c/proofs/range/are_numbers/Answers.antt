-- One more number is looked at.
use Rattle.std.proofs.Common.{ℤ, ◌<◌, pos, get_or, arith, rules, FitsSigned}
use Rattle.std.specs.Int.{w32}
use Rattle.std.proofs.lemmas.Int.{to_z-of_z}
use Rattle.fz_c.proofs.RangeLemmas.{one_more_looked}
use Rattle.fz_c.proofs.range.are_numbers.Goals as goal

pub loop-number-preserved : goal.loop-number-preserved
loop-number-preserved g c =
    let z : ℤ = get_or c.args.numbers.now c.loop-number.number-index (pos 0) in
    let fits : FitsSigned w32 z = search rules in
    let here = rw (to_z-of_z w32 z fits) at c.is_number-fine.ensures in
    one_more_looked g.row.W c.loop-number.number-index c.args.numbers.now c.loop-number.fine c.is_number-fine.result c.loop-number-test.true c.loop-number.invariant here

pub returns : goal.returns
returns g c = (
  λ fine k d h. let passed : k < c.loop-number.number-index = omega (arith, h, c.loop-number-test.false) in c.loop-number.invariant.0 fine k d passed,
  λ all. c.loop-number.invariant.1 (λ k d h. all k d (omega (arith, h, c.loop-number.auto))),
)
