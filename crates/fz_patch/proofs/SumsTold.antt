-- Which card of a checksum is told, if another card is written (FITS 4.0, section 4.4.2.7).
use Rattle.std.proofs.Common.{◌≡◌, ◌≢◌, ◌⊎◌, inl, inr, ℕ, zero, suc, ◌+◌, ◌<◌, ◌≤◌, not, Bool, true, false, cond, ltb, List, [], ◌∷◌, length, map, bytes_eq, Option, Some, None, unwrap_or, if◌then◌else◌, refl, sym, ap, ◌∙◌, subst, arith, zero-add}
use Rattle.std.specs.List.{position, position_or_len, range_with_len}
use Rattle.std.proofs.lemmas.Bool.{cases_lt}
use Rattle.std.proofs.lemmas.List.FromFn.{get_or-map-range_with_len, length-map-range_with_len}
use Rattle.std.proofs.lemmas.List.Quantifiers.{position-Some}
use Rattle.std.proofs.lemmas.Slice.Eq.{bytes_eq-Decides}
use Rattle.fz_card.specs.CardLists.{has_name}
use Rattle.fz_card.specs.Layout.{card_name}
use Rattle.fz_card.specs.Reading.{text_of}
use Rattle.fz_block.specs.Cards.{card_at, end_of}
use Rattle.fz_block.specs.Hdus.{cards_of}
use Rattle.fz_sum.specs.Verdicts.{is_some_text}
use Rattle.fz_head.specs.CardLists.{index_of}
use Rattle.fz_laws.specs.Writes.{told_sum}
use Rattle.fz_patch.proofs.SumCards.{told_at, told_nowhere}

-- ---- a search by a test that is the same of each card

places_same : (has : List ℕ → Bool) (a b : ℕ → List ℕ) (s n : ℕ) → ((k : ℕ) → has (a k) ≡ has (b k)) → position_or_len has (map a (range_with_len s n)) ≡ position_or_len has (map b (range_with_len s n))
places_same has a b s zero same = refl
places_same has a b s (suc n) same = λ j. cond (not (same s j)) (1 + places_same has a b (s + 1) n same j) 0

position_same : (has : List ℕ → Bool) (a b : ℕ → List ℕ) (s n : ℕ) → ((k : ℕ) → has (a k) ≡ has (b k)) → position has (map a (range_with_len s n)) ≡ position has (map b (range_with_len s n))
position_same has a b s n same =
    let place = places_same has a b s n same in
    let long : length (map a (range_with_len s n)) ≡ length (map b (range_with_len s n)) = length-map-range_with_len a s n ∙ sym (length-map-range_with_len b s n) in
    λ j. cond (ltb (place j) (long j)) (Some (place j)) None

false_true : (b : Bool) → b ≡ false → b ≡ true → ⊥
false_true true e f = absurd cc
false_true false e f = absurd cc

module _ (name old new : List ℕ) (i : ℕ) (many : unwrap_or (end_of new) 0 ≡ unwrap_or (end_of old) 0) (others : (k : ℕ) → i ≢ k → card_at new k ≡ card_at old k) (was : has_name name (card_at old i) ≡ false) (now : has_name name (card_at new i) ≡ false) where
  tests : (k : ℕ) → has_name name (card_at new k) ≡ has_name name (card_at old k)
  tests k = by_order (cases_lt k i) (cases_lt i k)
    where
      by_order : (k < i) ⊎ (i ≤ k) → (i < k) ⊎ (k ≤ i) → has_name name (card_at new k) ≡ has_name name (card_at old k)
      by_order (inl less) other = ap (has_name name) (others k (omega (arith, less)))
      by_order (inr low) (inl more) = ap (has_name name) (others k (omega (arith, more)))
      by_order (inr low) (inr high) =
          let same : i ≡ k = omega (arith, low, high) in
          subst (λ n. has_name name (card_at new n) ≡ has_name name (card_at old n)) same (now ∙ sym was)

  index_same : index_of name (cards_of new) ≡ index_of name (cards_of old)
  index_same =
      ap (λ n. position (has_name name) (map (card_at new) (range_with_len 0 n))) many
      ∙ position_same (has_name name) (card_at new) (card_at old) 0 (unwrap_or (end_of old) 0) tests

  not_here : (k : ℕ) → index_of name (cards_of old) ≡ Some k → i ≢ k
  not_here k at same =
      let found = position-Some (has_name name) (cards_of old) k [] at in
      let n : ℕ = unwrap_or (end_of old) 0 in
      let long : length (cards_of old) ≡ n = length-map-range_with_len (card_at old) 0 n in
      let here = get_or-map-range_with_len (card_at old) 0 n k k [] (omega (arith, found.0, long)) (zero-add k) in
      let is : has_name name (card_at old k) ≡ true = ap (has_name name) (sym here) ∙ found.1 in
      false_true (has_name name (card_at old k)) (ap (λ n. has_name name (card_at old n)) (sym same) ∙ was) is

  -- the card of a checksum is told as before, if another one is written
  pub told_beside : told_sum name new ≡ told_sum name old
  told_beside = by_place (index_of name (cards_of old)) refl
    where
      by_place : (o : Option ℕ) → index_of name (cards_of old) ≡ o → told_sum name new ≡ told_sum name old
      by_place None e = told_nowhere name new (index_same ∙ e) ∙ sym (told_nowhere name old e)
      by_place (Some k) e =
          told_at name new k (index_same ∙ e)
          ∙ (ap (λ l. if is_some_text (text_of l) then Some k else None) (others k (not_here k e))
          ∙ sym (told_at name old k e))

-- the card of a sum that is told has its name
pub told_named : (name header : List ℕ) (i : ℕ) → told_sum name header ≡ Some i → card_name (card_at header i) ≡ name
told_named name header i told = by_place (index_of name (cards_of header)) refl
  where
    chosen : (b : Bool) (k i : ℕ) → (if b then Some k else None) ≡ Some i → k ≡ i
    chosen true k i e = cc
    chosen false k i e = absurd cc

    by_place : (o : Option ℕ) → index_of name (cards_of header) ≡ o → card_name (card_at header i) ≡ name
    by_place None e = let none : None ≡ Some i = sym (told_nowhere name header e) ∙ told in absurd cc
    by_place (Some k) e =
        let found = position-Some (has_name name) (cards_of header) k [] e in
        let n : ℕ = unwrap_or (end_of header) 0 in
        let long : length (cards_of header) ≡ n = length-map-range_with_len (card_at header) 0 n in
        let here = get_or-map-range_with_len (card_at header) 0 n k k [] (omega (arith, found.0, long)) (zero-add k) in
        let same : k ≡ i = chosen (is_some_text (text_of (card_at header k))) k i (sym (told_at name header k e) ∙ told) in
        (bytes_eq-Decides (card_name (card_at header i)) name).0 (subst (λ m. has_name name (card_at header m) ≡ true) same (ap (has_name name) (sym here) ∙ found.1))
