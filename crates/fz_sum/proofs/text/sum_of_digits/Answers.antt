use Rattle.std.proofs.Common.{sym, ◌∙◌}
use Rattle.fz_sum.proofs.SumTexts.{read-digits, no-digits}
use Rattle.fz_sum.proofs.text.sum_of_digits.Goals as goal

pub returns-then-are_digits : goal.returns-then-are_digits
returns-then-are_digits c = read-digits c.args.digits.now c.whole_number.result c.whole_number.ensures (sym c.are_digits.ensures ∙ c.if-are_digits.true)

pub returns-else-are_digits : goal.returns-else-are_digits
returns-else-are_digits c = no-digits c.args.digits.now (sym c.are_digits.ensures ∙ c.if-are_digits.false)
