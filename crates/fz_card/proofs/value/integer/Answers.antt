use Rattle.fz_card.proofs.Integers.{read_integer, read_no_integer}
use Rattle.fz_card.proofs.Readings.{same_option, long-none, integer_in-is, is-integer_in}
use Rattle.fz_card.specs.Value.{IsIntegerText}
use Rattle.fz_card.specs.Reading.{integer_in}
use Rattle.fz_card.proofs.value.integer.Goals as goal

pub returns-clause-value : goal.returns-clause-value
returns-clause-value c = read_integer c.args.text.now c.parsed.result (rw (← c.without_sign.ensures) c.if-without_sign-gt-MOST_DIGITS.false) c.parsed.ensures

pub returns-clause-none : goal.returns-clause-none
returns-clause-none c = read_no_integer c.args.text.now c.parsed.result (rw (← c.without_sign.ensures) c.if-without_sign-gt-MOST_DIGITS.false) c.parsed.ensures

pub returns-clause-function : goal.returns-clause-function
returns-clause-function c =
    let text = c.args.text.now in
    same_option (IsIntegerText text) c.parsed.result (integer_in text) (returns-clause-value c) (returns-clause-none c) (integer_in-is text) (is-integer_in text)
