use Rattle.std.proofs.Common.{sym, ◌∙◌}
use Rattle.fz_card.proofs.Integers.{read_short}
use Rattle.fz_card.proofs.Readings.{integer_of-read, integer_of-none}
use Rattle.fz_card.proofs.Values.{int_some, int_none}
use Rattle.fz_card.proofs.card.Card.int.Goals as goal

pub returns-clause-value : goal.returns-clause-value
returns-clause-value c = int_some c.args.self.now.bytes c.in_ok-value_text.field-0.now c.integer.result c.in_ok-value_text.ensures.0 c.in_ok-value_text.ensures.1 c.integer.ensures.value

pub returns-clause-none : goal.returns-clause-none
returns-clause-none c = int_none c.args.self.now.bytes c.in_ok-value_text.field-0.now c.integer.result c.in_ok-value_text.ensures.1 c.integer.ensures.none

pub returns-in_err-value_text-clause-function : goal.returns-in_err-value_text-clause-function
returns-in_err-value_text-clause-function c = c.from_residual.ensures ∙ sym (integer_of-none c.args.self.now.bytes c.in_err-value_text.ensures)

pub returns-clause-function : goal.returns-clause-function
returns-clause-function c =
    let card = c.args.self.now.bytes in
    let text = c.in_ok-value_text.field-0.now in
    integer_of-read card c.integer.result (int_some card text c.integer.result c.in_ok-value_text.ensures.0 c.in_ok-value_text.ensures.1 c.integer.ensures.value) (int_none card text c.integer.result c.in_ok-value_text.ensures.1 c.integer.ensures.none)

pub returns-clause-short : goal.returns-clause-short
returns-clause-short c = read_short c.in_ok-value_text.field-0.now c.integer.result c.integer.ensures.value
