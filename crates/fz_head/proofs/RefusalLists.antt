-- Checks one after another, each by itself: the first that refuses.
use Rattle.std.proofs.Common.{◌≡◌, Bool, true, false, List, [], ◌∷◌, ◌++◌, refl, ◌∙◌}
use Rattle.std.specs.Prelude.{Some, None, Result, Ok, Err}
use Rattle.fz_base.specs.Refusal.{IsFirstOf, first_refusal}
use Rattle.fz_base.specs.declared.fault.Fault.{Fault}

-- no check of the first list refuses
pub passed : (xs ys : List (Bool × Fault)) → first_refusal xs ≡ None → first_refusal (xs ++ ys) ≡ first_refusal ys
passed [] ys none = refl
passed ((true, fault) ∷ xs) ys none = absurd cc
passed ((false, fault) ∷ xs) ys none = passed xs ys none

-- a check of the first list refuses
pub stopped : (xs ys : List (Bool × Fault)) (x : Fault) → first_refusal xs ≡ Some x → first_refusal (xs ++ ys) ≡ Some x
stopped [] ys x some = absurd cc
stopped ((true, fault) ∷ xs) ys x some = some
stopped ((false, fault) ∷ xs) ys x some = stopped xs ys x some

-- two checks pass, and the answer is that to the third
pub first-of-third : {A : Type 0} (a b c : Bool × Fault) (result : Result A Fault) → first_refusal (a ∷ []) ≡ None → first_refusal (b ∷ []) ≡ None → IsFirstOf (c ∷ []) result → IsFirstOf (a ∷ b ∷ c ∷ []) result
first-of-third a b c (Ok v) none also is = passed (a ∷ []) (b ∷ c ∷ []) none ∙ (passed (b ∷ []) (c ∷ []) also ∙ is)
first-of-third a b c (Err x) none also is = passed (a ∷ []) (b ∷ c ∷ []) none ∙ (passed (b ∷ []) (c ∷ []) also ∙ is)
