use Rattle.fz_card.proofs.DecimalLemmas.{has-decimal_of, decimal_of-has, decimal-once, is-shifted, shifted-is}
use Rattle.fz_card.proofs.shifting.decimal_law.Goals as goal

pub returns : goal.returns
returns c =
    let integers = c.integer_text_law.ensures in
    let texts = c.value_text_law.ensures in
    record {
      once = decimal-once integers texts;
      decimal = λ card d. (has-decimal_of integers texts card d, decimal_of-has integers texts card d);
      shifted_card = λ card by other. (is-shifted integers texts card by other, shifted-is integers texts card by other);
    }
