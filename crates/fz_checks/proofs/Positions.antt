-- Searches through the cards of a header, from the first on.
use Rattle.std.proofs.Common.{◌≡◌, ℕ, zero, suc, ◌+◌, ◌<◌, ◌≤◌, Bool, true, false, not, cond, ltb, List, [], ◌∷◌, length, map, sym, refl, ap, ◌∙◌, subst, arith, inl, inr, zero-add, add-zero}
use Rattle.std.specs.Prelude.{◌||◌, Some, None, is_some}
use Rattle.std.specs.List.{list_any, position, position_or_len, range_with_len}
use Rattle.std.proofs.lemmas.Bool.{cases_eq, lt-ltb, le-ltb}
use Rattle.std.proofs.lemmas.Bool.Decides.{nat_tests}
use Rattle.std.proofs.lemmas.List.FromFn.{length-map-range_with_len}
use Rattle.fz_block.specs.Cards.{card_at}

is-some-if : (b : Bool) (n : ℕ) → is_some (cond b (Some n) None) ≡ b
is-some-if true n = refl
is-some-if false n = refl

is-some-cond : (b : Bool) (n : ℕ) → b ≡ true → is_some (cond b (Some n) None) ≡ true
is-some-cond b n e = is-some-if b n ∙ e

same-test : (a b : ℕ) → ltb (1 + a) (suc b) ≡ ltb a b
same-test a b = grind (arith, nat_tests)

module _ {X : Type 0} (has : X → Bool) (f : ℕ → X) where
  -- how many stand before the first that has it
  before-first : (a n i : ℕ) → i < n → has (f (a + i)) ≡ true → ((k : ℕ) → a ≤ k → k < a + i → has (f k) ≡ false) → position_or_len has (map f (range_with_len a n)) ≡ i
  before-first a zero i below is none = absurd (omega arith)
  before-first a (suc n) zero below is none = ap (λ b. cond (not b) (1 + position_or_len has (map f (range_with_len (a + 1) n))) 0) (ap (λ k. has (f k)) (sym (add-zero a)) ∙ is)
  before-first a (suc n) (suc i) below is none =
      let place : a + suc i ≡ a + 1 + i = omega arith in
      let rest = before-first (a + 1) n i (omega arith) (ap (λ k. has (f k)) (sym place) ∙ is) (λ k low high. none k (omega arith) (omega arith)) in
      ap (λ b. cond (not b) (1 + position_or_len has (map f (range_with_len (a + 1) n))) 0) (none a (omega arith) (omega arith)) ∙ (ap (λ k. 1 + k) rest ∙ omega arith)

  before-none : (a n : ℕ) → ((k : ℕ) → a ≤ k → k < a + n → has (f k) ≡ false) → position_or_len has (map f (range_with_len a n)) ≡ n
  before-none a zero none = refl
  before-none a (suc n) none =
      let rest = before-none (a + 1) n (λ k low high. none k (omega arith) (omega arith)) in
      ap (λ b. cond (not b) (1 + position_or_len has (map f (range_with_len (a + 1) n))) 0) (none a (omega arith) (omega arith)) ∙ (ap (λ k. 1 + k) rest ∙ omega arith)

  pub position-here : (n i : ℕ) → i < n → has (f i) ≡ true → ((k : ℕ) → k < i → has (f k) ≡ false) → Some i ≡ position has (map f (range_with_len 0 n))
  position-here n i below is none =
      let at : position_or_len has (map f (range_with_len 0 n)) ≡ i = before-first 0 n i below (ap (λ k. has (f k)) (zero-add i) ∙ is) (λ k low high. none k (omega arith)) in
      let long = length-map-range_with_len f 0 n in
      let within : ltb i (length (map f (range_with_len 0 n))) ≡ true = lt-ltb i (length (map f (range_with_len 0 n))) (omega arith) in
      sym (ap (λ k. cond (ltb k (length (map f (range_with_len 0 n)))) (Some k) None) at ∙ ap (λ b. cond b (Some i) None) within)

  pub position-nowhere : (n : ℕ) → ((k : ℕ) → k < n → has (f k) ≡ false) → None ≡ position has (map f (range_with_len 0 n))
  position-nowhere n none =
      let at : position_or_len has (map f (range_with_len 0 n)) ≡ n = before-none 0 n (λ k low high. none k (omega arith)) in
      let long = length-map-range_with_len f 0 n in
      let past : ltb n (length (map f (range_with_len 0 n))) ≡ false = le-ltb n (length (map f (range_with_len 0 n))) (omega arith) in
      sym (ap (λ k. cond (ltb k (length (map f (range_with_len 0 n)))) (Some k) None) at ∙ ap (λ b. cond b (Some n) None) past)

-- some has it exactly where a first one does
pub some-position : {X : Type 0} (has : X → Bool) (xs : List X) → is_some (position has xs) ≡ list_any has xs
some-position has [] = refl
some-position has (x ∷ xs) = by_test (has x) (some-position has xs)
  where
    by_test : (b : Bool) → is_some (position has xs) ≡ list_any has xs →
        is_some (cond (ltb (cond (not b) (1 + position_or_len has xs) 0) (suc (length xs))) (Some (cond (not b) (1 + position_or_len has xs) 0)) None) ≡ (b || list_any has xs)
    by_test true rest = is-some-cond (ltb 0 (suc (length xs))) 0 (lt-ltb 0 (suc (length xs)) (omega arith))
    by_test false rest = is-some-if (ltb (1 + position_or_len has xs) (suc (length xs))) (1 + position_or_len has xs) ∙ (same-test (position_or_len has xs) (length xs) ∙ (sym (is-some-if (ltb (position_or_len has xs) (length xs)) (position_or_len has xs)) ∙ rest))

-- one more that has it not
pub none-more : (has : List ℕ → Bool) (buf : List ℕ) (i : ℕ) → ((k : ℕ) → k < i → has (card_at buf k) ≡ false) → has (card_at buf i) ≡ false → (k : ℕ) → k < i + 1 → has (card_at buf k) ≡ false
none-more has buf i none here k below = elim (cases_eq k i) [
  | inl same ↦ subst (λ j. has (card_at buf j) ≡ false) (sym same) here
  | inr other ↦ none k (omega arith)
]
