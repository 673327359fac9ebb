-- What tests say that are true.
use Rattle.std.proofs.Common.{◌≡◌, ℕ, ◌<◌, ◌≤◌, ◌==◌, nat_lt, Bool, true, false, refl, arith}
use Rattle.std.proofs.lemmas.Bool.Decides.{nat_tests}

pub lt_true : (a b : ℕ) → nat_lt a b ≡ true → a < b
lt_true a b e = grind (arith, nat_tests)

pub eq_true : (a b : ℕ) → (a == b) ≡ true → a ≡ b
eq_true a b e = grind (arith, nat_tests)

pub true_lt : (a b : ℕ) → a < b → nat_lt a b ≡ true
true_lt a b less = by_test (nat_lt a b) refl
  where
    by_test : (t : Bool) → nat_lt a b ≡ t → nat_lt a b ≡ true
    by_test true e = e
    by_test false e = let more : b ≤ a = grind (arith, nat_tests) in absurd (omega (arith, less, more))

pub false_lt : (a b : ℕ) → b ≤ a → nat_lt a b ≡ false
false_lt a b most = by_test (nat_lt a b) refl
  where
    by_test : (t : Bool) → nat_lt a b ≡ t → nat_lt a b ≡ false
    by_test true e = absurd (omega (arith, most, lt_true a b e))
    by_test false e = e

pub true_eq : (a b : ℕ) → a ≡ b → (a == b) ≡ true
true_eq a b same = by_test (a == b) refl
  where
    by_test : (t : Bool) → (a == b) ≡ t → (a == b) ≡ true
    by_test true e = e
    by_test false e = grind (arith, nat_tests)

pub false_eq : (a b : ℕ) → (a ≡ b → ⊥) → (a == b) ≡ false
false_eq a b apart = by_test (a == b) refl
  where
    by_test : (t : Bool) → (a == b) ≡ t → (a == b) ≡ false
    by_test true e = absurd (apart (eq_true a b e))
    by_test false e = e
