use Rattle.std.proofs.Common.{sym, ◌∙◌}
use Rattle.fz_card.proofs.Readings.{logical_of-read, logical_of-none}
use Rattle.fz_card.proofs.Values.{logical_some, logical_none}
use Rattle.fz_card.proofs.card.Card.logical.Goals as goal

pub returns-clause-value : goal.returns-clause-value
returns-clause-value c = logical_some c.args.self.now.bytes c.in_ok-value_text.field-0.now c.truth.result c.in_ok-value_text.ensures.0 c.in_ok-value_text.ensures.1 c.truth.ensures.value

pub returns-clause-none : goal.returns-clause-none
returns-clause-none c = logical_none c.args.self.now.bytes c.in_ok-value_text.field-0.now c.truth.result c.in_ok-value_text.ensures.1 c.truth.ensures.none

pub returns-in_err-value_text-clause-function : goal.returns-in_err-value_text-clause-function
returns-in_err-value_text-clause-function c = c.from_residual.ensures ∙ sym (logical_of-none c.args.self.now.bytes c.in_err-value_text.ensures)

pub returns-clause-function : goal.returns-clause-function
returns-clause-function c =
    let card = c.args.self.now.bytes in
    let text = c.in_ok-value_text.field-0.now in
    logical_of-read card c.truth.result (logical_some card text c.truth.result c.in_ok-value_text.ensures.0 c.in_ok-value_text.ensures.1 c.truth.ensures.value) (logical_none card text c.truth.result c.in_ok-value_text.ensures.1 c.truth.ensures.none)
