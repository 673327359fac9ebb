-- What tests say that are true or false.
use Rattle.std.proofs.Common.{◌≡◌, ◌≢◌, ℕ, ◌<◌, ◌≤◌, ◌⊎◌, inl, inr, ◌==◌, ◌&&◌, ◌||◌, not, nat_lt, nat_le, Bool, true, false, List, [], ◌∷◌, refl, arith}
use Rattle.std.proofs.lemmas.Bool.Decides.{nat_tests}
use Rattle.std.specs.Prelude.{⊤}
use Rattle.fz_files.specs.RecordPixels.{any_of}

pub lt_true : (a b : ℕ) → nat_lt a b ≡ true → a < b
lt_true a b e = grind (arith, nat_tests)

pub lt_false : (a b : ℕ) → nat_lt a b ≡ false → b ≤ a
lt_false a b e = grind (arith, nat_tests)

pub le_true : (a b : ℕ) → nat_le a b ≡ true → a ≤ b
le_true a b e = grind (arith, nat_tests)

pub le_false : (a b : ℕ) → nat_le a b ≡ false → b < a
le_false a b e = grind (arith, nat_tests)

pub eq_true : (a b : ℕ) → (a == b) ≡ true → a ≡ b
eq_true a b e = grind (arith, nat_tests)

pub eq_false : (a b : ℕ) → (a == b) ≡ false → a ≢ b
eq_false a b e same = grind (arith, nat_tests)

pub not_true : (b : Bool) → not b ≡ true → b ≡ false
not_true true e = absurd cc
not_true false e = refl

pub not_false : (b : Bool) → not b ≡ false → b ≡ true
not_false true e = refl
not_false false e = absurd cc

pub and_true : (a b : Bool) → (a && b) ≡ true → (a ≡ true) × (b ≡ true)
and_true true b e = (refl, e)
and_true false b e = absurd cc

pub and_false : (a b : Bool) → (a && b) ≡ false → (a ≡ false) ⊎ (b ≡ false)
and_false true b e = inr e
and_false false b e = inl refl

pub or_true : (a b : Bool) → (a || b) ≡ true → (a ≡ true) ⊎ (b ≡ true)
or_true true b e = inl refl
or_true false b e = inr e

pub or_false : (a b : Bool) → (a || b) ≡ false → (a ≡ false) × (b ≡ false)
or_false true b e = absurd cc
or_false false b e = (refl, e)

-- each of several tests that is true shows the same
abbrev pub EachShows : Type 0 → List Bool → Type 0
EachShows T [] = ⊤
EachShows T (b ∷ bs) = (b ≡ true → T) × EachShows T bs

pub one_of_them : (T : Type 0) (bs : List Bool) → any_of bs ≡ true → EachShows T bs → T
one_of_them T [] e shows = absurd cc
one_of_them T (true ∷ bs) e shows = shows.0 refl
one_of_them T (false ∷ bs) e shows = one_of_them T bs e shows.1

-- all of several tests are false
abbrev pub AreFalse : List Bool → Type 0
AreFalse [] = ⊤
AreFalse (b ∷ bs) = (b ≡ false) × AreFalse bs

pub none_of_them : (bs : List Bool) → any_of bs ≡ false → AreFalse bs
none_of_them [] e = tt
none_of_them (b ∷ bs) e = let both = or_false b (any_of bs) e in (both.0, none_of_them bs both.1)
