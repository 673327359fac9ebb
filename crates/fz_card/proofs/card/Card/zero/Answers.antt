use Rattle.std.proofs.Common.{sym, ◌∙◌}
use Rattle.fz_card.proofs.ZeroValues.{zero_of-none, zero_of-text, zero_read, zero_unread}
use Rattle.fz_card.proofs.card.Card.zero.Goals as goal

pub returns-in_err-value_text-clause-function : goal.returns-in_err-value_text-clause-function
returns-in_err-value_text-clause-function c = c.from_residual.ensures ∙ sym (zero_of-none c.args.self.now.bytes c.in_err-value_text.ensures)

pub returns-clause-function : goal.returns-clause-function
returns-clause-function c =
    c.zero_of_text.ensures ∙ zero_of-text c.args.self.now.bytes c.in_ok-value_text.field-0.now c.in_ok-value_text.ensures.0 c.in_ok-value_text.ensures.1

pub returns-clause-value : goal.returns-clause-value
returns-clause-value c = zero_read c.args.self.now.bytes c.zero_of_text.result (returns-clause-function c)

pub returns-clause-none : goal.returns-clause-none
returns-clause-none c = zero_unread c.args.self.now.bytes c.zero_of_text.result (returns-clause-function c)
