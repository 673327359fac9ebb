use Rattle.std.proofs.Common.{take, sym, ap, ◌∙◌}
use Rattle.std.specs.Prelude.{ℕ}
use Rattle.std.specs.Option.{option_map}
use Rattle.fz_card.specs.Value.{TextValue}
use Rattle.fz_card.specs.Quoted.{text_in}
use Rattle.fz_card.specs.Reading.{text_of}
use Rattle.fz_card.proofs.TextValues.{text_of-value, value-text_of, text_of-none, text_of-field}
use Rattle.fz_card.proofs.Readings.{read_is, read_none}
use Rattle.fz_card.proofs.card.Card.text.Goals as goal

pub returns-in_err-value_field-clause-function : goal.returns-in_err-value_field-clause-function
returns-in_err-value_field-clause-function c =
    ap (option_map (λ (n : ℕ). take n c.args.into.now)) c.from_residual.ensures ∙ sym (text_of-none c.args.self.now.bytes c.in_err-value_field.ensures)

pub returns-clause-function : goal.returns-clause-function
returns-clause-function c =
    c.quoted_text.ensures.function ∙ (ap text_in c.in_ok-value_field.ensures.1 ∙ text_of-field c.args.self.now.bytes c.in_ok-value_field.ensures.0)

pub returns-clause-value : goal.returns-clause-value
returns-clause-value c =
    read_is (λ (n : ℕ). take n c.quoted_text.new.into) (TextValue c.args.self.now.bytes) c.quoted_text.result (text_of c.args.self.now.bytes) (returns-clause-function c) (text_of-value c.args.self.now.bytes)

pub returns-clause-none : goal.returns-clause-none
returns-clause-none c =
    read_none (λ (n : ℕ). take n c.quoted_text.new.into) (TextValue c.args.self.now.bytes) c.quoted_text.result (text_of c.args.self.now.bytes) (returns-clause-function c) (value-text_of c.args.self.now.bytes)
