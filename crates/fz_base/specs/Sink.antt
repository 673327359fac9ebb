-- What the calls of a sink do to its contents, and those of a text. Contents are none if they are not shown.
use Rattle.std.specs.Prelude.{ℕ, ◌≡◌, ◌+◌, ◌-◌, ◌⊎◌, List, [], ◌∷◌, ◌++◌, length, take, drop, replicate, Option}
use Rattle.std.specs.Option.{option_map}
use Rattle.fz_base.specs.Counts.{Rose}

-- the contents with these bytes from a place on; a gap between the old end and that place reads as 0
abbrev pub overwrite : ℕ → List ℕ → List ℕ → List ℕ
overwrite at [] contents = contents
overwrite at (b ∷ bytes) contents =
    take at contents ++ replicate (at - length contents) 0 ++ (b ∷ bytes) ++ drop (at + length (b ∷ bytes)) contents

-- shown contents after such a write
abbrev pub written : ℕ → List ℕ → Option (List ℕ) → Option (List ℕ)
written at bytes contents = option_map (overwrite at bytes) contents

-- a failed write wrote a prefix of the bytes, possibly empty
abbrev pub MayWrite : ℕ → List ℕ → Option (List ℕ) → Option (List ℕ) → Type 0
MayWrite at bytes old new = (n : ℕ) × (new ≡ written at (take n bytes) old)

-- shown contents after a `create`: no bytes
abbrev pub emptied : Option (List ℕ) → Option (List ℕ)
emptied contents = option_map (λ _. []) contents

-- shown text with more at its end
abbrev pub appended : List ℕ → Option (List ℕ) → Option (List ℕ)
appended bytes contents = option_map (λ text. text ++ bytes) contents

-- a failed `put` appended a prefix of the bytes, possibly empty
abbrev pub MayAppend : List ℕ → Option (List ℕ) → Option (List ℕ) → Type 0
MayAppend bytes old new = (n : ℕ) × (new ≡ appended (take n bytes) old)

-- a write that is set to fail wrote its front, or nothing if it found no memory for that
abbrev pub KeepsFront : ℕ → List ℕ → Option (List ℕ) → Option (List ℕ) → ℕ → ℕ → Type 0
KeepsFront at front old new wants wants' = (new ≡ written at front old) ⊎ ((new ≡ old) × Rose wants wants')
