-- Checks one after another, each by itself: the first that refuses.
use Rattle.std.proofs.Common.{◌≡◌, Bool, true, false, List, [], ◌∷◌, ◌++◌, refl, ap, sym, ◌∙◌, subst}
use Rattle.std.specs.Prelude.{Option, Some, None, Result, Err, is_none, is_some, not}
use Rattle.std.specs.Result.{MatchResult}
use Rattle.fz_base.specs.Refusal.{IsFirstOf, first_refusal}
use Rattle.fz_base.specs.declared.fault.Fault.{Fault}

-- no check of the first list refuses
pub passed : (xs ys : List (Bool × Fault)) → first_refusal xs ≡ None → first_refusal (xs ++ ys) ≡ first_refusal ys
passed [] ys none = refl
passed ((true, fault) ∷ xs) ys none = absurd cc
passed ((false, fault) ∷ xs) ys none = passed xs ys none

-- a check of the first list refuses
pub stopped : (xs ys : List (Bool × Fault)) (x : Fault) → first_refusal xs ≡ Some x → first_refusal (xs ++ ys) ≡ Some x
stopped [] ys x some = absurd cc
stopped ((true, fault) ∷ xs) ys x some = some
stopped ((false, fault) ∷ xs) ys x some = stopped xs ys x some

-- the same check in other words
pub check-of : (b c : Bool) (f g : Fault) (answer : Option Fault) → b ≡ c → f ≡ g → first_refusal ((b, f) ∷ []) ≡ answer → first_refusal ((c, g) ∷ []) ≡ answer
check-of b c f g answer same fault e = sym (ap (λ t. first_refusal ((t, f) ∷ [])) same ∙ ap (λ x. first_refusal ((c, x) ∷ [])) fault) ∙ e

-- a check that passed
pub test-of : (b : Bool) (f : Fault) → first_refusal ((b, f) ∷ []) ≡ None → b ≡ false
test-of true f e = absurd cc
test-of false f e = refl

-- the first lists of checks pass, and the next refuses
pub in-second-list : (one two rest : List (Bool × Fault)) (x : Fault) → first_refusal one ≡ None → first_refusal two ≡ Some x → first_refusal (one ++ (two ++ rest)) ≡ Some x
in-second-list one two rest x passes e = passed one (two ++ rest) passes ∙ stopped two rest x e

pub in-third-list : (one two three rest : List (Bool × Fault)) (x : Fault) → first_refusal one ≡ None → first_refusal two ≡ None → first_refusal three ≡ Some x → first_refusal (one ++ (two ++ (three ++ rest))) ≡ Some x
in-third-list one two three rest x first second e = passed one (two ++ (three ++ rest)) first ∙ in-second-list two three rest x second e

pub after-three-lists : (one two three rest : List (Bool × Fault)) → first_refusal one ≡ None → first_refusal two ≡ None → first_refusal three ≡ None → first_refusal (one ++ (two ++ (three ++ rest))) ≡ first_refusal rest
after-three-lists one two three rest first second third = passed one (two ++ (three ++ rest)) first ∙ (passed two (three ++ rest) second ∙ passed three rest third)

-- the answer to a check is that to the same check in other words
pub first-of-check : {A : Type 0} (b c : Bool) (f g : Fault) (result : Result A Fault) → b ≡ c → f ≡ g → IsFirstOf ((b, f) ∷ []) result → IsFirstOf ((c, g) ∷ []) result
first-of-check b c f g result same fault is = subst (λ x. IsFirstOf ((c, x) ∷ []) result) fault (subst (λ t. IsFirstOf ((t, f) ∷ []) result) same is)

-- the first check refuses, the next does, and the one after it
pub refused-first : (a : Bool × Fault) (rest : List (Bool × Fault)) (x : Fault) → first_refusal (a ∷ []) ≡ Some x → first_refusal (a ∷ rest) ≡ Some x
refused-first a rest x e = stopped (a ∷ []) rest x e

pub refused-next : (a b : Bool × Fault) (rest : List (Bool × Fault)) (x : Fault) → first_refusal (a ∷ []) ≡ None → first_refusal (b ∷ []) ≡ Some x → first_refusal (a ∷ b ∷ rest) ≡ Some x
refused-next a b rest x none e = in-second-list (a ∷ []) (b ∷ []) rest x none e

pub refused-third : (a b c : Bool × Fault) (rest : List (Bool × Fault)) (x : Fault) → first_refusal (a ∷ []) ≡ None → first_refusal (b ∷ []) ≡ None → first_refusal (c ∷ []) ≡ Some x → first_refusal (a ∷ b ∷ c ∷ rest) ≡ Some x
refused-third a b c rest x none also e = in-third-list (a ∷ []) (b ∷ []) (c ∷ []) rest x none also e

-- a check that passed, before others
pub skip : (a : Bool × Fault) (rest : List (Bool × Fault)) (answer : Option Fault) → first_refusal (a ∷ []) ≡ None → first_refusal rest ≡ answer → first_refusal (a ∷ rest) ≡ answer
skip a rest answer none e = passed (a ∷ []) rest none ∙ e

-- the answer is what the first check that refuses says
pub refuses : {A : Type 0} (checks : List (Bool × Fault)) (x : Fault) (r : Result A Fault) → r ≡ Err x → first_refusal checks ≡ Some x → IsFirstOf checks r
refuses checks x r is e = subst (IsFirstOf checks) (sym is) e

-- all checks but the last ones passed
pub last : {A : Type 0} (checks rest : List (Bool × Fault)) (r : Result A Fault) → first_refusal checks ≡ first_refusal rest → IsFirstOf rest r → IsFirstOf checks r
last checks rest r same is = subst (λ o. MatchResult r (λ _. o ≡ None) (λ x. o ≡ Some x)) (sym same) is

-- what is not there is missing
pub not-some : {X : Type 0} (o : Option X) → not (is_some o) ≡ is_none o
not-some None = refl
not-some (Some x) = refl
