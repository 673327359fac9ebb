use Rattle.std.proofs.Common.{ap, ◌∙◌}
use Rattle.fz_sum.specs.Texts.{sum_of_digits, sum_of_text}
use Rattle.fz_sum.proofs.SumTexts.{text-value, text-none}
use Rattle.fz_sum.proofs.text.sum_of_text.Goals as goal

pub returns-clause-function : goal.returns-clause-function
unfolding sum_of_text
returns-clause-function c = c.sum_of_digits.ensures ∙ ap sum_of_digits c.without_first_blanks.ensures

pub returns-clause-value : goal.returns-clause-value
returns-clause-value c = text-value c.blanks_law.ensures c.args.text.now _ (returns-clause-function c)

pub returns-clause-none : goal.returns-clause-none
returns-clause-none c = text-none c.blanks_law.ensures c.args.text.now _ (returns-clause-function c)
