-- Lists that are made of a range of numbers: what is found in them, and which of their elements are kept.
use Rattle.std.proofs.Common.{◌≡◌, ℕ, ◌+◌, ◌<◌, ◌≤◌, Bool, true, false, cond, ltb, List, length, get_or, refl, arith}
use Rattle.std.specs.Prelude.{Some, None}
use Rattle.std.specs.List.{position, position_or_len}
use Rattle.std.proofs.lemmas.Bool.{ltb-false}
use Rattle.std.proofs.lemmas.List.Sums.{fails_before_first}

abbrev pub Between : ℕ → ℕ → (ℕ → Type 0) → Type 0
Between a n P = (i : ℕ) → a ≤ i → i < a + n → P i

module _ {X : Type 0} where
  -- no index has a property
  pub position_none : (has : X → Bool) (xs : List X) (k : ℕ) (d : X) → position has xs ≡ None → k < length xs → has (get_or xs k d) ≡ false
  position_none has xs k d e within = by_test (ltb (position_or_len has xs) (length xs)) refl e
    where
      by_test : (b : Bool) → ltb (position_or_len has xs) (length xs) ≡ b → cond b (Some (position_or_len has xs)) None ≡ None → has (get_or xs k d) ≡ false
      by_test true t h = cc
      by_test false t h = let past = ltb-false (position_or_len has xs) (length xs) t in fails_before_first has xs k d (omega arith)
