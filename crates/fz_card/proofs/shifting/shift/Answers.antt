use Rattle.std.proofs.Common.{ap, ◌∙◌}
use Rattle.fz_card.specs.Decimals.{decimal_text}
use Rattle.fz_card.specs.Layout.{card_name}
use Rattle.fz_card.specs.Made.{value_card, right_aligned}
use Rattle.fz_card.proofs.DecimalLemmas.{shifted-none, shifted-some}
use Rattle.fz_card.proofs.shifting.shift.Goals as goal

pub returns-in_err-decimal-clause-none : goal.returns-in_err-decimal-clause-none
returns-in_err-decimal-clause-none c =
    rw c.from_residual.ensures (λ d has. let found = (c.decimal_law.ensures.decimal c.args.card.now.bytes d).0 has in let none = c.in_err-decimal.ensures.value in cc)

pub returns-in_err-decimal-clause-function : goal.returns-in_err-decimal-clause-function
returns-in_err-decimal-clause-function c =
    rw c.from_residual.ensures (shifted-none c.args.card.now.bytes c.args.by c.in_err-decimal.ensures.value)

pub returns-clause-function : goal.returns-clause-function
returns-clause-function c =
    shifted-some c.args.card.now.bytes c.args.by c.in_ok-decimal.decimal c.decimal_card.result.bytes c.in_ok-decimal.ensures.value (c.decimal_card.ensures ∙ ap (λ d. value_card (card_name c.args.card.now.bytes) (right_aligned 20 (decimal_text d))) c.less.ensures.value)
