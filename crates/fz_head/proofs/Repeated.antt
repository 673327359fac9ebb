-- Cards that repeat the name of an earlier one, among the first cards of a header.
use Rattle.std.proofs.Common.{◌≡◌, ℕ, ◌+◌, ◌<◌, Bool, true, false, List, [], take, get_or, sym, ap, ◌∙◌, subst, inl, inr, arith, zero-add}
use Rattle.std.specs.Prelude.{◌&&◌, Some, None, bytes_eq}
use Rattle.std.specs.List.{list_any, position, range_with_len}
use Rattle.std.proofs.lemmas.Bool.{cases_eq}
use Rattle.std.proofs.lemmas.List.FromFn.{length-map-range_with_len, get_or-map-range_with_len, take-map-range_with_len}
use Rattle.fz_card.specs.Layout.{card_name}
use Rattle.fz_card.specs.Naming.{is_in_some}
use Rattle.fz_card.specs.Tables.{Names}
use Rattle.fz_block.specs.Cards.{card_at}
use Rattle.fz_head.specs.Repeats.{first_repeat, repeats}
use Rattle.fz_head.specs.Written.{first_cards}
use Rattle.fz_head.proofs.Positions.{index-here, index-nowhere}

-- the card of this index repeats the name of an earlier one
abbrev pub repeated : List Names → (List ℕ → List ℕ) → List ℕ → ℕ → Bool
repeated once as_name buf i =
    is_in_some once (card_name (card_at buf i)) && list_any (λ c. bytes_eq (as_name (card_name c)) (as_name (card_name (card_at buf i)))) (first_cards buf i)

repeats-is : (once : List Names) (as_name : List ℕ → List ℕ) (buf : List ℕ) (n i : ℕ) → i < n → repeats once as_name (first_cards buf n) i ≡ repeated once as_name buf i
repeats-is once as_name buf n i below =
    let card : get_or (first_cards buf n) i [] ≡ card_at buf i = get_or-map-range_with_len (card_at buf) 0 n i i [] below (zero-add i) in
    let front : take i (first_cards buf n) ≡ first_cards buf i = take-map-range_with_len (card_at buf) 0 n i (omega arith) in
    λ j. is_in_some once (card_name (card j)) && list_any (λ c. bytes_eq (as_name (card_name c)) (as_name (card_name (card j)))) (front j)

pub repeat-here : (once : List Names) (as_name : List ℕ → List ℕ) (buf : List ℕ) (n i : ℕ) → i < n → repeated once as_name buf i ≡ true → ((k : ℕ) → k < i → repeated once as_name buf k ≡ false) →
    Some i ≡ first_repeat once as_name (first_cards buf n)
repeat-here once as_name buf n i below is none =
    index-here (repeats once as_name (first_cards buf n)) n i below (repeats-is once as_name buf n i below ∙ is) (λ k less. repeats-is once as_name buf n k (omega arith) ∙ none k less)
    ∙ ap (λ k. position (repeats once as_name (first_cards buf n)) (range_with_len 0 k)) (sym (length-map-range_with_len (card_at buf) 0 n))

pub repeat-nowhere : (once : List Names) (as_name : List ℕ → List ℕ) (buf : List ℕ) (n : ℕ) → ((k : ℕ) → k < n → repeated once as_name buf k ≡ false) → None ≡ first_repeat once as_name (first_cards buf n)
repeat-nowhere once as_name buf n none =
    index-nowhere (repeats once as_name (first_cards buf n)) n (λ k less. repeats-is once as_name buf n k less ∙ none k less)
    ∙ ap (λ k. position (repeats once as_name (first_cards buf n)) (range_with_len 0 k)) (sym (length-map-range_with_len (card_at buf) 0 n))

pub none-repeated : (once : List Names) (as_name : List ℕ → List ℕ) (buf : List ℕ) (i : ℕ) → ((k : ℕ) → k < i → repeated once as_name buf k ≡ false) → repeated once as_name buf i ≡ false →
    (k : ℕ) → k < i + 1 → repeated once as_name buf k ≡ false
none-repeated once as_name buf i none here k below = elim (cases_eq k i) [
  | inl same ↦ subst (λ j. repeated once as_name buf j ≡ false) (sym same) here
  | inr other ↦ none k (omega arith)
]
