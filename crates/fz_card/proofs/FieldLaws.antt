-- The laws of cards and names.
use Rattle.std.proofs.Common.{◌≡◌, ℕ, List, ◌++◌, length, take, drop, sym, refl, ap, ◌∙◌}
use Rattle.std.specs.Prelude.{bytes_eq, codes}
use Rattle.std.proofs.lemmas.List.{drop_at, drop-drop}
use Rattle.fz_card.specs.Layout.{value_field, HasValueIndicator}
use Rattle.fz_card.specs.Value.{IsPlain, HasValueText}
use Rattle.fz_card.specs.Plain.{plain_text}
use Rattle.fz_card.specs.Reading.{has_value_indicator, integer_of, logical_of, text_of, zero_of}
use Rattle.fz_card.specs.Laws.{HaveSameValues}
use Rattle.fz_card.proofs.Values.{value_text-found, has_plain_text}

-- columns 9 and 10, and the value field, with another name in front of them
indicator-kept : (name card : List ℕ) → length name ≡ 8 → has_value_indicator (name ++ drop 8 card) ≡ has_value_indicator card
indicator-kept name card eight = ap (λ (rest : List ℕ). bytes_eq (take 2 rest) (codes "= ")) (drop_at name (drop 8 card) 8 eight)

field-kept : (name card : List ℕ) → length name ≡ 8 → value_field (name ++ drop 8 card) ≡ value_field card
field-kept name card eight =
    sym (drop-drop 2 8 (name ++ drop 8 card)) ∙ (ap (drop 2) (drop_at name (drop 8 card) 8 eight) ∙ drop-drop 2 8 card)

pub same_values : (name card : List ℕ) → length name ≡ 8 → HaveSameValues (name ++ drop 8 card) card
unfolding integer_of logical_of text_of zero_of
same_values name card eight =
    let indicator = indicator-kept name card eight in
    let field = field-kept name card eight in
    record {
      integer = rw (indicator, field) refl;
      logical = rw (indicator, field) refl;
      text = rw (indicator, field) refl;
      zero = rw (indicator, field) refl;
    }

pub value_text_found : (card text : List ℕ) → IsPlain text → HasValueText card text → HasValueIndicator card × (plain_text (value_field card) ≡ text)
value_text_found card text plain has = (has.indicator, value_text-found card text has plain)

pub value_text_has : (card text : List ℕ) → HasValueIndicator card × (plain_text (value_field card) ≡ text) → HasValueText card text
value_text_has card text (indicator, found) = has_plain_text card text indicator (sym found)
