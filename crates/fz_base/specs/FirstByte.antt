-- Contents that are no FITS file, since they do not begin as one does, with the S of SIMPLE (FITS 4.0, section 4.4.1.1).
use Rattle.std.specs.Prelude.{ℕ, ◌≡◌, ◌≢◌, ◌⊎◌, List, [], ◌∷◌, Option, Some, None, ⊤}
use Rattle.fz_base.specs.Sink.{written}

-- contents, if they are shown, are empty or begin with another byte than S
abbrev pub IsShut : Option (List ℕ) → Type 0
IsShut None = ⊤
IsShut (Some []) = ⊤
IsShut (Some (b ∷ bytes)) = b ≢ 83

-- contents that were shut are so after a call
abbrev pub StaysShut : Option (List ℕ) → Option (List ℕ) → Type 0
StaysShut old new = IsShut old → IsShut new

-- the contents with the S in front
abbrev pub with_first_byte : Option (List ℕ) → Option (List ℕ)
with_first_byte contents = written 0 (83 ∷ []) contents

-- contents that were shut are so after a call that stopped, or are whole: the S was the last that was missing
abbrev pub StopsShut : Option (List ℕ) → Option (List ℕ) → Type 0
StopsShut old new = StaysShut old new ⊎ (new ≡ with_first_byte old)

-- contents after a seal that stopped: as they were, or with the S in front
abbrev pub StopsSealing : Option (List ℕ) → Option (List ℕ) → Type 0
StopsSealing old new = (new ≡ old) ⊎ (new ≡ with_first_byte old)
