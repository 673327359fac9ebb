-- The first of a list of checks that refuses.
use Rattle.std.specs.Prelude.{ℕ, ◌≡◌, Bool, true, false, List, [], ◌∷◌, Option, Some, None, Result}
use Rattle.std.specs.Result.{MatchResult}
use Rattle.fz_base.specs.declared.fault.Fault.{Fault}
use Rattle.fz_base.specs.declared.fault.Place.{Place}
use Rattle.fz_base.specs.declared.kind.Kind.{Kind}

-- a fault of this kind at this place of an HDU
abbrev pub refusal : ℕ → Place → Kind → Fault
refusal hdu at kind = record { hdu = hdu; at = at; kind = kind }

-- the fault of the first check whose condition holds, or none
abbrev pub first_refusal : List (Bool × Fault) → Option Fault
first_refusal [] = None
first_refusal ((true, fault) ∷ checks) = Some fault
first_refusal ((false, fault) ∷ checks) = first_refusal checks

-- the answer is Ok if no check rejects, and otherwise the fault of the first that does
abbrev pub IsFirstOf : {A : Type 0} → List (Bool × Fault) → Result A Fault → Type 0
IsFirstOf checks result = MatchResult result (λ _. first_refusal checks ≡ None) (λ x. first_refusal checks ≡ Some x)
