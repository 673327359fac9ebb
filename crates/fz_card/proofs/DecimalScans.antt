-- What stands before the first byte that passes a test, and from it on.
use Rattle.std.proofs.Common.{◌≡◌, ℕ, zero, suc, ◌<◌, ◌≤◌, Bool, true, false, cond, List, [], ◌∷◌, ◌++◌, length, take, drop, get_or, refl, ap, arith}
use Rattle.std.specs.Prelude.{⊤}
use Rattle.fz_card.specs.DecimalScans.{before, behind}

module _ (test : ℕ → Bool) where
  -- a list is both parts
  pub before-behind : (l : List ℕ) → l ≡ before test l ++ behind test l
  before-behind [] = refl
  before-behind (b ∷ bs) = by_test (test b) (before-behind bs)
    where
      by_test : (passes : Bool) → bs ≡ before test bs ++ behind test bs → b ∷ bs ≡ cond passes [] (b ∷ before test bs) ++ cond passes (b ∷ bs) (behind test bs)
      by_test true rest = refl
      by_test false rest = ap (λ (l : List ℕ). b ∷ l) rest

  -- the second part is empty or begins with a byte that passes
  abbrev pub BeginsSo : List ℕ → Type 0
  BeginsSo [] = ⊤
  BeginsSo (b ∷ bs) = test b ≡ true

  pub behind-begins : (l : List ℕ) → BeginsSo (behind test l)
  behind-begins [] = tt
  behind-begins (b ∷ bs) = by_test (test b) refl (behind-begins bs)
    where
      by_test : (passes : Bool) → test b ≡ passes → BeginsSo (behind test bs) → BeginsSo (cond passes (b ∷ bs) (behind test bs))
      by_test true e rest = e
      by_test false e rest = rest

  -- no byte passes
  abbrev pub IsFree : List ℕ → Type 0
  IsFree [] = ⊤
  IsFree (b ∷ bs) = (test b ≡ false) × IsFree bs

  pub free-append : (a b : List ℕ) → IsFree a → IsFree b → IsFree (a ++ b)
  free-append [] b none more = more
  free-append (x ∷ a) b (first, none) more = (first, free-append a b none more)

  pub free-front : (a b : List ℕ) → IsFree (a ++ b) → IsFree a
  free-front [] b none = tt
  free-front (x ∷ a) b (first, none) = (first, free-front a b none)

  pub free-rest : (a b : List ℕ) → IsFree (a ++ b) → IsFree b
  free-rest [] b none = none
  free-rest (x ∷ a) b (first, none) = free-rest a b none

  pub before-free : (a b : List ℕ) → IsFree a → before test (a ++ b) ≡ a ++ before test b
  before-free [] b none = refl
  before-free (x ∷ a) b (first, none) = rw (first, before-free a b none) refl

  pub behind-free : (a b : List ℕ) → IsFree a → behind test (a ++ b) ≡ behind test b
  behind-free [] b none = refl
  behind-free (x ∷ a) b (first, none) = rw (first, behind-free a b none) refl

  pub before-begins : (l : List ℕ) → BeginsSo l → before test l ≡ []
  before-begins [] e = refl
  before-begins (b ∷ bs) e = rw e refl

  pub behind-begins_so : (l : List ℕ) → BeginsSo l → behind test l ≡ l
  behind-begins_so [] e = refl
  behind-begins_so (b ∷ bs) e = rw e refl

  -- the first part by its length: no byte before passes, and the next one does, or there is none
  pub parts-at : (l : List ℕ) (n : ℕ) → n ≤ length l → ((k : ℕ) → k < n → test (get_or l k 0) ≡ false) → (n < length l → test (get_or l n 0) ≡ true) → (take n l ≡ before test l) × (drop n l ≡ behind test l)
  parts-at [] zero within none here = (refl, refl)
  parts-at [] (suc n) within none here = absurd (omega arith)
  parts-at (b ∷ bs) zero within none here = let e : test b ≡ true = here (omega arith) in (rw e refl, rw e refl)
  parts-at (b ∷ bs) (suc n) within none here =
      let e : test b ≡ false = none 0 (omega arith) in
      let rest = parts-at bs n (omega arith) (λ k below. none (suc k) (omega arith)) (λ more. here (omega arith)) in
      (rw e (ap (λ (l : List ℕ). b ∷ l) rest.0), rw e rest.1)
