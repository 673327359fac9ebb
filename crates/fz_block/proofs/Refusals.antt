-- The first refusal among checks of one list after another.
use Rattle.std.proofs.Common.{◌≡◌, ℕ, zero, suc, ◌+◌, ◌<◌, Bool, true, false, List, [], ◌∷◌, ◌++◌, Some, None, refl, ap, sym, ◌∙◌, arith}
use Rattle.std.specs.List.{flat_map, range_with_len}
use Rattle.fz_base.specs.Refusal.{first_refusal}
use Rattle.fz_base.specs.declared.fault.Fault.{Fault}

-- no check of the first list refuses
pub passed : (xs ys : List (Bool × Fault)) → first_refusal xs ≡ None → first_refusal (xs ++ ys) ≡ first_refusal ys
passed [] ys none = refl
passed ((true, fault) ∷ xs) ys none = absurd cc
passed ((false, fault) ∷ xs) ys none = passed xs ys none

-- a check of the first list refuses
pub stopped : (xs ys : List (Bool × Fault)) (x : Fault) → first_refusal xs ≡ Some x → first_refusal (xs ++ ys) ≡ Some x
stopped [] ys x some = absurd cc
stopped ((true, fault) ∷ xs) ys x some = some
stopped ((false, fault) ∷ xs) ys x some = stopped xs ys x some

-- no check refuses, so none of the first list does
pub front_passed : (xs ys : List (Bool × Fault)) → first_refusal (xs ++ ys) ≡ None → first_refusal xs ≡ None
front_passed [] ys none = refl
front_passed ((true, fault) ∷ xs) ys none = none
front_passed ((false, fault) ∷ xs) ys none = front_passed xs ys none

pub back_passed : (xs ys : List (Bool × Fault)) → first_refusal (xs ++ ys) ≡ None → first_refusal ys ≡ None
back_passed xs ys none = sym (passed xs ys (front_passed xs ys none)) ∙ none

-- the checks of one more place pass
pub next_passed : (checks : ℕ → List (Bool × Fault)) (a i j : ℕ) → a + i ≡ j → first_refusal (flat_map checks (range_with_len a i)) ≡ None → first_refusal (checks j) ≡ None → first_refusal (flat_map checks (range_with_len a (i + 1))) ≡ None
next_passed checks a zero j at before here =
    let same : a ≡ j = omega arith in
    passed (checks a) [] (ap (λ k. first_refusal (checks k)) same ∙ here)
next_passed checks a (suc i) j at before here =
    let more : suc i + 1 ≡ suc (i + 1) = omega arith in
    let front = front_passed (checks a) (flat_map checks (range_with_len (a + 1) i)) before in
    let back = back_passed (checks a) (flat_map checks (range_with_len (a + 1) i)) before in
    ap (λ n. first_refusal (flat_map checks (range_with_len a n))) more
    ∙ (passed (checks a) (flat_map checks (range_with_len (a + 1) (i + 1))) front
    ∙ next_passed checks (a + 1) i j (omega arith) back here)

-- the checks of the next of n places do not
pub next_stopped : (checks : ℕ → List (Bool × Fault)) (a i n j : ℕ) (x : Fault) → a + i ≡ j → i < n → first_refusal (flat_map checks (range_with_len a i)) ≡ None → first_refusal (checks j) ≡ Some x → first_refusal (flat_map checks (range_with_len a n)) ≡ Some x
next_stopped checks a i zero j x at below before here = absurd (omega arith)
next_stopped checks a zero (suc n) j x at below before here =
    let same : a ≡ j = omega arith in
    stopped (checks a) (flat_map checks (range_with_len (a + 1) n)) x (ap (λ k. first_refusal (checks k)) same ∙ here)
next_stopped checks a (suc i) (suc n) j x at below before here =
    let front = front_passed (checks a) (flat_map checks (range_with_len (a + 1) i)) before in
    let back = back_passed (checks a) (flat_map checks (range_with_len (a + 1) i)) before in
    passed (checks a) (flat_map checks (range_with_len (a + 1) n)) front
    ∙ next_stopped checks (a + 1) i n j x (omega arith) (omega arith) back here
