-- A file after some writes in place.
use Rattle.std.specs.Prelude.{ℕ, ◌+◌, ◌<◌, ◌≤◌, ◌⊎◌, List, [], ◌∷◌, length}
use Rattle.fz_base.specs.Counts.{Amend}
use Rattle.fz_base.specs.Sink.{overwrite}

abbrev pub amend_of : ℕ → List ℕ → Amend
amend_of at bytes = record { at = at; bytes = bytes }

-- a file after this write
abbrev pub amended : Amend → List ℕ → List ℕ
amended w file = overwrite w.at w.bytes file

-- a file after these writes, one after another
abbrev pub applied : List Amend → List ℕ → List ℕ
applied [] file = file
applied (w ∷ ws) file = applied ws (amended w file)

-- a byte of a file is not one of those that a write puts there
abbrev pub IsOutside : ℕ → Amend → Type 0
IsOutside i w = (i < w.at) ⊎ (w.at + length w.bytes ≤ i)
