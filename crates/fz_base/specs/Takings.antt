-- The buffers that a job takes from its meter, one after another, and the first of them that passes the limit.
use Rattle.std.specs.Prelude.{ℕ, ◌≡◌, ◌+◌, ◌≤◌, max, nat_lt, List, [], ◌∷◌, ◌++◌, Option, Some, None, Result, Ok, Err, ⊤, if◌then◌else◌}
use Rattle.fz_base.specs.declared.failure.Short.{Short}
use Rattle.fz_base.specs.declared.failure.Short.TheVariants.{NoMemory as NoRoom, OverLimit as PastLimit}
use Rattle.fz_base.specs.declared.failure.Stop.{Stop}
use Rattle.fz_base.specs.declared.failure.Stop.TheVariants.{Refused, ReadFault, WriteFault, OverLimit, NoMemory}

-- takings one after another, from so many live bytes on: each with what is live then, and what is asked
abbrev pub piled : ℕ → List ℕ → List (ℕ × ℕ)
piled live [] = []
piled live (asked ∷ more) = (live, asked) ∷ piled (live + asked) more

-- the first taking that passes the limit: what is live then, and what is asked
abbrev pub first_past : ℕ → List (ℕ × ℕ) → Option (ℕ × ℕ)
first_past limit [] = None
first_past limit ((live, asked) ∷ takings) = if nat_lt limit (live + asked) then Some (live, asked) else first_past limit takings

-- the most that is live after one of the takings
abbrev pub highest : List (ℕ × ℕ) → ℕ
highest [] = 0
highest ((live, asked) ∷ takings) = max (live + asked) (highest takings)

-- takings were all given, or stopped by the first that passes the limit, or by want of memory
abbrev pub TellsShort : {X : Type 0} → ℕ → List (ℕ × ℕ) → Result X Short → Type 0
TellsShort limit takings (Ok x) = first_past limit takings ≡ None
TellsShort limit takings (Err NoRoom) = ⊤
TellsShort limit takings (Err (PastLimit live asked told)) = first_past limit takings ≡ Some (live, asked)

-- The limit stopped a job if one of its takings is the first that passes it, and otherwise did not: a job that took all
-- that it asks for answers only if no taking passes the limit.
abbrev pub TellsFirstPast : {X : Type 0} → ℕ → List (ℕ × ℕ) → Result X Stop → Type 0
TellsFirstPast limit takings (Ok x) = first_past limit takings ≡ None
TellsFirstPast limit takings (Err (Refused x)) = first_past limit takings ≡ None
TellsFirstPast limit takings (Err ReadFault) = ⊤
TellsFirstPast limit takings (Err WriteFault) = first_past limit takings ≡ None
TellsFirstPast limit takings (Err (OverLimit live asked told)) = first_past limit takings ≡ Some (live, asked)
TellsFirstPast limit takings (Err NoMemory) = ⊤

-- of two lists of takings, if none of the first passes the limit, the first taking that does is that of the second
abbrev pub PastSecondLaw : Type 0
PastSecondLaw = (limit : ℕ) (first second : List (ℕ × ℕ)) → first_past limit first ≡ None → first_past limit (first ++ second) ≡ first_past limit second

-- and if one of the first passes it, that one is the first of both
abbrev pub PastFirstLaw : Type 0
PastFirstLaw = (limit : ℕ) (found : ℕ × ℕ) (first second : List (ℕ × ℕ)) → first_past limit first ≡ Some found → first_past limit (first ++ second) ≡ Some found

-- a taking that passes some limit is within every bound that no taking passes
abbrev pub PastWithinLaw : Type 0
PastWithinLaw =
    (limit bound : ℕ) (takings : List (ℕ × ℕ)) (found : ℕ × ℕ) → first_past bound takings ≡ None → first_past limit takings ≡ Some found
    → found.0 + found.1 ≤ bound
