-- What is known of the first fault of a list of checks, check by check.
use Rattle.std.specs.Prelude.{⊤}
use Rattle.std.proofs.Common.{◌≡◌, ℕ, Bool, true, false, List, [], ◌∷◌, ◌++◌, Option, Some, None, Ok, Err, refl, subst, ◌∙◌, ap}
use Rattle.std.specs.List.{flat_map}
use Rattle.fz_base.specs.Refusal.{first_refusal}
use Rattle.fz_base.specs.declared.fault.Fault.{Fault}
use Rattle.fz_block.specs.Checks.{unless_refused}

-- The fault of each check has a property, if no check before it refuses; and if none refuses, something else is so.
abbrev pub Checked : (Fault → Type 0) → Type 0 → List (Bool × Fault) → Type 0
Checked P Q [] = Q
Checked P Q (c ∷ cs) = (c.0 ≡ true → P c.1) × (c.0 ≡ false → Checked P Q cs)

pub first_is : (P : Fault → Type 0) (Q : Type 0) (cs : List (Bool × Fault)) (x : Fault) → Checked P Q cs → first_refusal cs ≡ Some x → P x
first_is P Q [] x are e = absurd cc
first_is P Q ((true, y) ∷ cs) x are e =
    let same : y ≡ x = cc in
    subst P same (are.0 refl)
first_is P Q ((false, y) ∷ cs) x are e = first_is P Q cs x (are.1 refl) e

pub none_gives : (P : Fault → Type 0) (Q : Type 0) (cs : List (Bool × Fault)) → Checked P Q cs → first_refusal cs ≡ None → Q
none_gives P Q [] are e = are
none_gives P Q ((true, y) ∷ cs) are e = absurd cc
none_gives P Q ((false, y) ∷ cs) are e = none_gives P Q cs (are.1 refl) e

-- checks one list after another
pub and_after : (P : Fault → Type 0) (Q R : Type 0) (xs ys : List (Bool × Fault)) → Checked P R xs → (R → Checked P Q ys) → Checked P Q (xs ++ ys)
and_after P Q R [] ys a b = b a
and_after P Q R (x ∷ xs) ys a b = (a.0, λ passes. and_after P Q R xs ys (a.1 passes) b)

pub each_is : (P : Fault → Type 0) (f : ℕ → List (Bool × Fault)) (ns : List ℕ) → ((i : ℕ) → Checked P ⊤ (f i)) → Checked P ⊤ (flat_map f ns)
each_is P f [] all = tt
each_is P f (i ∷ ns) all = and_after P ⊤ ⊤ (f i) (flat_map f ns) (all i) (λ _. each_is P f ns all)

pub refused_is : {A : Type 0} (P : Fault → Type 0) (Q : Type 0) (answer : A) (cs : List (Bool × Fault)) (x : Fault) → Checked P Q cs → unless_refused answer (first_refusal cs) ≡ Err x → P x
refused_is {A} P Q answer cs x are e = by_first (first_refusal cs) refl e
  where
    by_first : (found : Option Fault) → first_refusal cs ≡ found → unless_refused answer found ≡ Err x → P x
    by_first None is e = absurd cc
    by_first (Some y) is e =
        let same : y ≡ x = cc in
        first_is P Q cs x are (is ∙ ap Some same)

pub passed_is : {A : Type 0} (P : Fault → Type 0) (Q : Type 0) (answer other : A) (cs : List (Bool × Fault)) → Checked P Q cs → unless_refused answer (first_refusal cs) ≡ Ok other → Q × (answer ≡ other)
passed_is {A} P Q answer other cs are e = by_first (first_refusal cs) refl e
  where
    by_first : (found : Option Fault) → first_refusal cs ≡ found → unless_refused answer found ≡ Ok other → Q × (answer ≡ other)
    by_first None is e =
        let same : answer ≡ other = cc in
        (none_gives P Q cs are is, same)
    by_first (Some y) is e = absurd cc

-- ---- lists of checks that refuse nothing

pub front_passed : (xs ys : List (Bool × Fault)) → first_refusal (xs ++ ys) ≡ None → first_refusal xs ≡ None
front_passed [] ys none = refl
front_passed ((true, x) ∷ xs) ys none = absurd cc
front_passed ((false, x) ∷ xs) ys none = front_passed xs ys none

pub back_passed : (xs ys : List (Bool × Fault)) → first_refusal (xs ++ ys) ≡ None → first_refusal ys ≡ None
back_passed [] ys none = none
back_passed ((true, x) ∷ xs) ys none = absurd cc
back_passed ((false, x) ∷ xs) ys none = back_passed xs ys none

pub first_clear : (b : Bool) (x : Fault) (cs : List (Bool × Fault)) → first_refusal ((b, x) ∷ cs) ≡ None → b ≡ false
first_clear true x cs none = absurd cc
first_clear false x cs none = refl

pub rest_clear : (b : Bool) (x : Fault) (cs : List (Bool × Fault)) → first_refusal ((b, x) ∷ cs) ≡ None → first_refusal cs ≡ None
rest_clear true x cs none = absurd cc
rest_clear false x cs none = none
