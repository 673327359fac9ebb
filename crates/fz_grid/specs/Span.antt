-- The box of a grid of tiles, counted in tiles, that a box of pixels touches (FITS 4.0, section 10.1).
use Rattle.std.specs.Prelude.{ℕ, ◌+◌, ◌-◌, ◌/◌, List, [], ◌∷◌}

-- the first tile along each axis
abbrev pub first_tiles : List ℕ → List ℕ → List ℕ
first_tiles [] tile = []
first_tiles (o ∷ os) [] = []
first_tiles (o ∷ os) (t ∷ ts) = (o / t) ∷ first_tiles os ts

-- how many tiles along each axis: from that of the first pixel to that of the last
abbrev pub touched_counts : List ℕ → List ℕ → List ℕ → List ℕ
touched_counts [] lengths tile = []
touched_counts (o ∷ os) [] tile = []
touched_counts (o ∷ os) (r ∷ rs) [] = []
touched_counts (o ∷ os) (r ∷ rs) (t ∷ ts) = ((o + (r - 1)) / t - o / t + 1) ∷ touched_counts os rs ts
