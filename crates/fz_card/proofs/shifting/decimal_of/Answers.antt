use Rattle.std.proofs.Common.{◌∙◌}
use Rattle.fz_card.proofs.DecimalLemmas.{no-value, value-read}
use Rattle.fz_card.proofs.shifting.decimal_of.Goals as goal

pub returns-in_err-value_text-clause-value : goal.returns-in_err-value_text-clause-value
returns-in_err-value_text-clause-value c = c.from_residual.ensures ∙ no-value c.args.card.now.bytes c.in_err-value_text.ensures

pub returns-clause-value : goal.returns-clause-value
returns-clause-value c =
    c.decimal_in.ensures.value ∙ value-read c.args.card.now.bytes c.in_ok-value_text.field-0.now c.in_ok-value_text.ensures.0 c.in_ok-value_text.ensures.1
