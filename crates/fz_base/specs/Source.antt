-- What the calls of a source answer and log. Held bytes and ranges are none if a source does not show them.
use Rattle.std.specs.Prelude.{ℕ, ◌≡◌, ◌+◌, ◌<◌, ◌≤◌, ◌⊎◌, All, Bool, bytes_eq, List, [], ◌∷◌, ◌++◌, length, take, drop, Option, Some, IfSome, Result, Ok, Err}
use Rattle.std.specs.Option.{option_map}

-- the buffer has the held bytes from a place on
abbrev pub Reads : Option (List ℕ) → ℕ → List ℕ → Type 0
Reads held at buffer = IfSome held (λ bytes. buffer ≡ take (length buffer) (drop at bytes))

-- the file has these bytes from a place on
abbrev pub has_bytes : List ℕ → ℕ → List ℕ → Bool
has_bytes file at bytes = bytes_eq (take (length bytes) (drop at file)) bytes

-- the ranges read, with one more: where it starts, and its length
abbrev pub logged : ℕ → ℕ → Option (List (ℕ × ℕ)) → Option (List (ℕ × ℕ))
logged at count ranges = option_map (λ rs. rs ++ (at, count) ∷ []) ranges

-- a failed read logs its range or leaves the list as it was
abbrev pub MayLog : ℕ → ℕ → Option (List (ℕ × ℕ)) → Option (List (ℕ × ℕ)) → Type 0
MayLog at count old new = (new ≡ old) ⊎ (new ≡ logged at count old)

-- a range that is not empty and lies between two places
abbrev pub IsRangeBetween : ℕ → ℕ → ℕ × ℕ → Type 0
IsRangeBetween from to range = (0 < range.1) × (from ≤ range.0) × (range.0 + range.1 ≤ to)

-- more ranges were read, if any, and each of them is of this kind
abbrev pub LogsOnly : (ℕ × ℕ → Type 0) → Option (List (ℕ × ℕ)) → Option (List (ℕ × ℕ)) → Type 0
LogsOnly Kind old new = (more : List (ℕ × ℕ)) × All Kind more × (new ≡ option_map (λ rs. rs ++ more) old)

-- each of the ranges that were read lies between two places
abbrev pub LogsWithin : ℕ → ℕ → Option (List (ℕ × ℕ)) → Option (List (ℕ × ℕ)) → Type 0
LogsWithin from to old new = LogsOnly (IsRangeBetween from to) old new

-- if the bytes are shown, there are so many
abbrev pub HoldsLength : Option (List ℕ) → ℕ → Type 0
HoldsLength held count = IfSome held (λ bytes. length bytes ≡ count)

-- if the bytes are shown, each is below 256
abbrev pub HoldsOctets : Option (List ℕ) → Type 0
HoldsOctets held = IfSome held (All (λ byte. byte < 256))

-- the attached length after a call of `attach`: what it answered, or as before
abbrev pub attached_by : {E : Type 0} → Result ℕ E → Option ℕ → Option ℕ
attached_by (Ok count) before = Some count
attached_by (Err e) before = before
