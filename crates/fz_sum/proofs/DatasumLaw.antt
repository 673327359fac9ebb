-- A card that is made of a sum gives that sum.
use Rattle.std.proofs.Common.{ℕ, ◌^◌, ◌<◌, sym, refl, arith}
use Rattle.std.specs.Prelude.{decimal}
use Rattle.std.proofs.lemmas.Fmt.{decimal_is_IsNumeral}
use Rattle.fz_card.specs.Laws.{MadeCardLaws}
use Rattle.fz_sum.specs.Cards.{datasum_name, datasum_card}
use Rattle.fz_sum.specs.Texts.{CardGivesSum}
use Rattle.fz_sum.proofs.CardTexts.{decimal-card_text}

pub datasum-gives : MadeCardLaws → (sum : ℕ) → sum < 2 ^ 32 → CardGivesSum (datasum_card sum) sum
unfolding datasum_card
datasum-gives made sum small =
    let numeral = decimal_is_IsNumeral sum (omega arith) in
    record {
      text = decimal sum;
      has = made.text_value datasum_name (decimal sum) refl (decimal-card_text made sum small);
      gives = record { before = 0; digits = decimal sum; parts = refl; numeral = numeral.0; value = sym numeral.1; fits = small };
    }
