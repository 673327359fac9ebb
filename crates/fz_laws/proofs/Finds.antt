-- The first of a list that has one of two properties.
use Rattle.std.proofs.Common.{◌≡◌, ℕ, suc, ◌+◌, ◌||◌, not, nat_lt, Bool, true, false, cond, ℤ, List, [], ◌∷◌, length, is_some, Option, Some, None, refl, sym, ◌∙◌, ap, arith}
use Rattle.std.specs.Prelude.{unwrap_or}
use Rattle.std.proofs.lemmas.Bool.Decides.{nat_tests}
use Rattle.std.proofs.lemmas.Slice.Eq.{bytes_eq-Decides}
use Rattle.std.specs.List.{find, list_any, position, prefix_len}
use Rattle.fz_card.specs.CardLists.{first_of_name, has_name}
use Rattle.fz_card.specs.Layout.{card_name}
use Rattle.fz_card.specs.Reading.{integer_of}
use Rattle.fz_head.specs.CardLists.{the_card}

module _ {X : Type 0} (p : X → Bool) where
  pub found_has : (xs : List X) (c : X) → find p xs ≡ Some c → p c ≡ true
  found_has [] c e = absurd cc
  found_has (x ∷ xs) c e = by_test (p x) refl e (found_has xs c)
    where
      by_test : (b : Bool) → p x ≡ b → cond b (Some x) (find p xs) ≡ Some c → (find p xs ≡ Some c → p c ≡ true) → p c ≡ true
      by_test true is e later = let same : x ≡ c = cc in sym (ap p same) ∙ is
      by_test false is e later = later e

  some_cond : (b : Bool) (n : ℕ) → is_some (cond b (Some n) None) ≡ b
  some_cond true n = refl
  some_cond false n = refl

  lt_more : (m n : ℕ) → nat_lt (1 + m) (suc n) ≡ nat_lt m n
  lt_more m n = by_test (nat_lt m n) refl
    where
      by_test : (less : Bool) → nat_lt m n ≡ less → nat_lt (1 + m) (suc n) ≡ less
      by_test true e = grind (arith, nat_tests, e)
      by_test false e = grind (arith, nat_tests, e)

  any_prefix : (xs : List X) → nat_lt (prefix_len (λ x. not (p x)) xs) (length xs) ≡ list_any p xs
  any_prefix [] = refl
  any_prefix (x ∷ xs) = by_test (p x) (any_prefix xs)
    where
      by_test : (b : Bool) → nat_lt (prefix_len (λ x. not (p x)) xs) (length xs) ≡ list_any p xs →
          nat_lt (cond (not b) (1 + prefix_len (λ x. not (p x)) xs) 0) (suc (length xs)) ≡ (b || list_any p xs)
      by_test true rest = grind (arith, nat_tests)
      by_test false rest = lt_more (prefix_len (λ x. not (p x)) xs) (length xs) ∙ rest

  pub any_position : (xs : List X) → is_some (position p xs) ≡ list_any p xs
  any_position xs = some_cond (nat_lt (prefix_len (λ x. not (p x)) xs) (length xs)) (prefix_len (λ x. not (p x)) xs) ∙ any_prefix xs

  pub any_find : (xs : List X) → is_some (find p xs) ≡ list_any p xs
  any_find [] = refl
  any_find (x ∷ xs) = by_test (p x) (any_find xs)
    where
      by_test : (b : Bool) → is_some (find p xs) ≡ list_any p xs → is_some (cond b (Some x) (find p xs)) ≡ (b || list_any p xs)
      by_test true rest = refl
      by_test false rest = rest

pub position_find : {X : Type 0} (p : X → Bool) (xs : List X) → is_some (position p xs) ≡ is_some (find p xs)
position_find p xs = any_position p xs ∙ sym (any_find p xs)

module _ {X : Type 0} (p q : X → Bool) where
  abbrev pub either : X → Bool
  either x = p x || q x

  pub first_same : (xs : List X) (d : X) → find either xs ≡ Some d → p d ≡ true → find p xs ≡ Some d
  first_same [] d e has = absurd cc
  first_same (x ∷ xs) d e has = by_tests (p x) (q x) refl e (first_same xs d)
    where
      by_tests : (a b : Bool) → p x ≡ a → cond (a || b) (Some x) (find either xs) ≡ Some d → (find either xs ≡ Some d → p d ≡ true → find p xs ≡ Some d) → cond a (Some x) (find p xs) ≡ Some d
      by_tests true b is e later = e
      by_tests false true is e later = let same : x ≡ d = cc in let not_so : false ≡ true = sym is ∙ ap p same ∙ has in absurd cc
      by_tests false false is e later = later e has

  pub none_other : (xs : List X) → find p xs ≡ None → find either xs ≡ find q xs
  none_other [] e = refl
  none_other (x ∷ xs) e = by_test (p x) e (none_other xs)
    where
      by_test : (a : Bool) → cond a (Some x) (find p xs) ≡ None → (find p xs ≡ None → find either xs ≡ find q xs) → cond (a || q x) (Some x) (find either xs) ≡ cond (q x) (Some x) (find q xs)
      by_test true e later = absurd cc
      by_test false e later = ap (cond (q x) (Some x)) (later e)

  pub either_found : (xs : List X) (c : X) → find p xs ≡ Some c → (d : X) × (find either xs ≡ Some d)
  either_found [] c e = absurd cc
  either_found (x ∷ xs) c e = by_tests (p x) (q x) e (either_found xs c)
    where
      by_tests : (a b : Bool) → cond a (Some x) (find p xs) ≡ Some c → (find p xs ≡ Some c → (d : X) × (find either xs ≡ Some d)) → (d : X) × (cond (a || b) (Some x) (find either xs) ≡ Some d)
      by_tests true b e later = (x, refl)
      by_tests false true e later = (x, refl)
      by_tests false false e later = later e

-- the first card of a name
pub record IsSaid (name : List ℕ) (cards : List (List ℕ)) : Type 0 where
  pub card : List ℕ
  pub found : first_of_name name cards ≡ Some card
  pub named : card_name card ≡ name

abbrev pub said_by : (name : List ℕ) (cards : List (List ℕ)) (card : List ℕ) → first_of_name name cards ≡ Some card → IsSaid name cards
said_by name cards card found = record { card = card; found = found; named = (bytes_eq-Decides (card_name card) name).0 (found_has (has_name name) cards card found) }

nothing_said : integer_of [] ≡ None
unfolding integer_of
nothing_said = refl

-- a card of which something is said that is not said of none
pub said : (name : List ℕ) (cards : List (List ℕ)) (P : Option ℤ → Bool) → P None ≡ false → P (integer_of (the_card name cards)) ≡ true → IsSaid name cards
said name cards P none is = by_found (first_of_name name cards) refl
  where
    by_found : (o : Option (List ℕ)) → first_of_name name cards ≡ o → IsSaid name cards
    by_found (Some card) found = said_by name cards card found
    by_found None found = let not_so : false ≡ true = sym none ∙ sym (ap P nothing_said) ∙ sym (ap (λ o. P (integer_of (unwrap_or o []))) found) ∙ is in absurd cc
