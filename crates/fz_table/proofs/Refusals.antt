-- The first refusal among checks of one list and then of another.
use Rattle.std.proofs.Common.{◌≡◌, Bool, true, false, List, [], ◌∷◌, ◌++◌, Some, None, refl}
use Rattle.fz_base.specs.Refusal.{first_refusal}
use Rattle.fz_base.specs.declared.fault.Fault.{Fault}

-- no check of the first list refuses
pub passed : (xs ys : List (Bool × Fault)) → first_refusal xs ≡ None → first_refusal (xs ++ ys) ≡ first_refusal ys
passed [] ys none = refl
passed ((true, fault) ∷ xs) ys none = absurd cc
passed ((false, fault) ∷ xs) ys none = passed xs ys none

-- a check of the first list refuses
pub stopped : (xs ys : List (Bool × Fault)) (x : Fault) → first_refusal xs ≡ Some x → first_refusal (xs ++ ys) ≡ Some x
stopped [] ys x some = absurd cc
stopped ((true, fault) ∷ xs) ys x some = some
stopped ((false, fault) ∷ xs) ys x some = stopped xs ys x some

pub ruleset refusals = (passed, stopped)
