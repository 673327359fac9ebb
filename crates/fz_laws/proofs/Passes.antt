-- Checks that pass: lists of checks of which none refuses.
use Rattle.std.specs.Prelude.{⊤}
use Rattle.std.proofs.Common.{◌≡◌, ◌⊎◌, inl, inr, ℕ, zero, suc, ◌+◌, ◌<◌, ◌≤◌, ◌&&◌, not, Bool, true, false, List, [], ◌∷◌, ◌++◌, map, None, flat_map, bytes_eq, refl, ap, ◌∙◌, subst, arith}
use Rattle.std.specs.List.{range_with_len}
use Rattle.std.proofs.lemmas.Bool.{cases_lt}
use Rattle.std.proofs.lemmas.Slice.Eq.{bytes_eq-Decides}
use Rattle.fz_base.specs.Refusal.{first_refusal}
use Rattle.fz_base.specs.declared.fault.Fault.{Fault}

-- none of these checks refuses
abbrev pub PassesAll : List (Bool × Fault) → Type 0
PassesAll [] = ⊤
PassesAll (c ∷ cs) = (c.0 ≡ false) × PassesAll cs

pub all_pass : (checks : List (Bool × Fault)) → first_refusal checks ≡ None → PassesAll checks
all_pass [] e = tt
all_pass ((true, f) ∷ cs) e = absurd cc
all_pass ((false, f) ∷ cs) e = (refl, all_pass cs e)

pub pass_both : (xs ys : List (Bool × Fault)) → PassesAll (xs ++ ys) → PassesAll xs × PassesAll ys
pass_both [] ys all = (tt, all)
pass_both (c ∷ cs) ys all = let rest = pass_both cs ys all.1 in ((all.0, rest.0), rest.1)

pub both_pass : (xs ys : List (Bool × Fault)) → first_refusal (xs ++ ys) ≡ None → (first_refusal xs ≡ None) × (first_refusal ys ≡ None)
both_pass [] ys e = (refl, e)
both_pass ((true, f) ∷ xs) ys e = absurd cc
both_pass ((false, f) ∷ xs) ys e = both_pass xs ys e

pub joined_pass : (xs ys : List (Bool × Fault)) → first_refusal xs ≡ None → first_refusal ys ≡ None → first_refusal (xs ++ ys) ≡ None
joined_pass [] ys first next = next
joined_pass ((true, f) ∷ xs) ys first next = absurd cc
joined_pass ((false, f) ∷ xs) ys first next = joined_pass xs ys first next

pub same_or_more : (a i : ℕ) → a ≤ i → (a ≡ i) ⊎ (a + 1 ≤ i)
same_or_more a i low = by_test (cases_lt a i)
  where
    by_test : (a < i) ⊎ (i ≤ a) → (a ≡ i) ⊎ (a + 1 ≤ i)
    by_test (inl less) = inr (omega arith)
    by_test (inr not_less) = inl (omega arith)

pub each_passes : (f : ℕ → List (Bool × Fault)) (a n : ℕ) → PassesAll (flat_map f (range_with_len a n)) → (i : ℕ) → a ≤ i → i < a + n → PassesAll (f i)
each_passes f a zero all i low high = absurd (omega arith)
each_passes f a (suc n) all i low high =
    let both = pass_both (f a) (flat_map f (range_with_len (a + 1) n)) all in
    by_place both.0 (λ more. each_passes f (a + 1) n both.1 i more (omega arith)) (same_or_more a i low)
  where
    by_place : PassesAll (f a) → (a + 1 ≤ i → PassesAll (f i)) → (a ≡ i) ⊎ (a + 1 ≤ i) → PassesAll (f i)
    by_place here later (inl same) = subst (λ k. PassesAll (f k)) same here
    by_place here later (inr more) = later more

-- ---- tests

pub is_so : (b : Bool) → not b ≡ false → b ≡ true
is_so true e = refl
is_so false e = absurd cc

pub and_left : (a b : Bool) → (a && b) ≡ true → a ≡ true
and_left true b e = refl
and_left false b e = absurd cc

pub and_right : (a b : Bool) → (a && b) ≡ true → b ≡ true
and_right true b e = e
and_right false b e = absurd cc

pub and_both : (a b : Bool) → a ≡ true → b ≡ true → (a && b) ≡ true
and_both a b first next = λ j. (ap (λ t. t && b) first ∙ next) j

pub is_named_so : (name other : List ℕ) → bytes_eq name other ≡ true → name ≡ other
is_named_so name other e = (bytes_eq-Decides name other).0 e

-- ---- maps of ranges

pub map_range : {Y : Type 0} (f g : ℕ → Y) (a n : ℕ) → ((i : ℕ) → a ≤ i → i < a + n → g i ≡ f i) → map g (range_with_len a n) ≡ map f (range_with_len a n)
map_range f g a zero each = refl
map_range f g a (suc n) each =
    let rest = map_range f g (a + 1) n (λ i low high. each i (omega arith) (omega arith)) in
    λ j. each a (omega arith) (omega arith) j ∷ rest j

pub flat_map_range : {Y : Type 0} (f g : ℕ → List Y) (a n : ℕ) → ((i : ℕ) → a ≤ i → i < a + n → g i ≡ f i) → flat_map g (range_with_len a n) ≡ flat_map f (range_with_len a n)
flat_map_range f g a zero each = refl
flat_map_range f g a (suc n) each =
    let rest = flat_map_range f g (a + 1) n (λ i low high. each i (omega arith) (omega arith)) in
    λ j. each a (omega arith) (omega arith) j ++ rest j
