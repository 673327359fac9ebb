use Rattle.std.proofs.Common.{◌≡◌, length, FitsSigned, refl, ◌∙◌, rules}
use Rattle.std.specs.Int.{w32, w64}
use Rattle.std.proofs.lemmas.Int.{to_z-of_z}
use Rattle.fz_card.specs.Decimals.{scaled}
use Rattle.fz_card.proofs.DecimalReadings.{no-integer, no-exponent, decimal-is}
use Rattle.fz_card.proofs.decimal_reading.decimal_in.Goals as goal

pub returns-in_err-integer-clause-value : goal.returns-in_err-integer-clause-value
returns-in_err-integer-clause-value c =
    c.from_residual.ensures ∙ no-integer c.args.text.now _ _ _ _ _ (c.split_at.ensures.front ∙ c.mantissa_len.ensures.before) (c.split_at.ensures.back ∙ c.mantissa_len.ensures.behind) (c.split_at-2.ensures.front ∙ c.front_len.ensures.before) (c.split_at-2.ensures.back ∙ c.front_len.ensures.behind) c.without_point-fraction.ensures c.in_err-integer.ensures.value

pub returns-in_err-exponent-clause-value : goal.returns-in_err-exponent-clause-value
returns-in_err-exponent-clause-value c =
    c.from_residual-in_err-exponent.ensures ∙ no-exponent c.args.text.now _ _ _ _ _ (c.split_at.ensures.front ∙ c.mantissa_len.ensures.before) (c.split_at.ensures.back ∙ c.mantissa_len.ensures.behind) (c.split_at-2.ensures.front ∙ c.front_len.ensures.before) (c.split_at-2.ensures.back ∙ c.front_len.ensures.behind) c.without_point-fraction.ensures c.in_ok-integer.integer c.in_ok-integer.ensures.value c.in_err-exponent.ensures

pub returns-clause-value : goal.returns-clause-value
returns-clause-value c =
    let wide : FitsSigned w64 c.in_ok-integer.integer = search rules in
    let small : FitsSigned w32 c.in_ok-exponent.exponent = search rules in
    let value : c.scaled.result ≡ scaled c.in_ok-integer.integer (length c.without_point-fraction.result.now) c.in_ok-exponent.exponent = c.scaled.ensures.value ∙ rw (to_z-of_z w64 c.in_ok-integer.integer wide, to_z-of_z w32 c.in_ok-exponent.exponent small) refl in
    decimal-is c.args.text.now _ _ _ _ _ (c.split_at.ensures.front ∙ c.mantissa_len.ensures.before) (c.split_at.ensures.back ∙ c.mantissa_len.ensures.behind) (c.split_at-2.ensures.front ∙ c.front_len.ensures.before) (c.split_at-2.ensures.back ∙ c.front_len.ensures.behind) c.without_point-fraction.ensures c.in_ok-integer.integer c.in_ok-exponent.exponent c.scaled.result c.in_ok-integer.ensures.value c.in_ok-exponent.ensures value
