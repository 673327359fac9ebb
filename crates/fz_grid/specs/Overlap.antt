-- The pixels that a region and a tile have in common, and the tiles that share a pixel with a region (FITS 4.0, section 10.1).
use Rattle.std.specs.Prelude.{◌≡◌, ℕ, ◌+◌, ◌-◌, ◌<◌, ◌≤◌, max, min, Bool, true, ◌&&◌, nat_lt, List, [], ◌∷◌, length, slice_index}
use Rattle.std.specs.List.{filter, range_with_len}
use Rattle.fz_grid.specs.Grid.{tile_count, tile_corner, tile_lengths}

-- the least coordinates of the box that two boxes have in common: the greater one along each axis
abbrev pub common_corner : List ℕ → List ℕ → List ℕ
common_corner [] qs = []
common_corner (p ∷ ps) [] = []
common_corner (p ∷ ps) (q ∷ qs) = max p q ∷ common_corner ps qs

-- the lengths of that box: from the greater corner to the smaller end along each axis, 0 if they do not meet
abbrev pub common_lengths : List ℕ → List ℕ → List ℕ → List ℕ → List ℕ
common_lengths [] ms qs ns = []
common_lengths (p ∷ ps) [] qs ns = []
common_lengths (p ∷ ps) (m ∷ ms) [] ns = []
common_lengths (p ∷ ps) (m ∷ ms) (q ∷ qs) [] = []
common_lengths (p ∷ ps) (m ∷ ms) (q ∷ qs) (n ∷ ns) = (min (p + m) (q + n) - max p q) ∷ common_lengths ps ms qs ns

-- there is a pixel in a box of these lengths
abbrev pub has_pixel : List ℕ → Bool
has_pixel [] = true
has_pixel (n ∷ ns) = nat_lt 0 n && has_pixel ns

-- the lengths of what the box of this corner and these lengths has in common with tile t
abbrev pub shared_lengths : List ℕ → List ℕ → List ℕ → List ℕ → ℕ → List ℕ
shared_lengths array tile corner lengths t =
    common_lengths corner lengths (tile_corner array tile t) (tile_lengths array tile t)

-- the tiles that have a pixel in common with the box, ascending
abbrev pub overlapping_tiles : List ℕ → List ℕ → List ℕ → List ℕ → List ℕ
overlapping_tiles array tile corner lengths =
    filter (λ t. has_pixel (shared_lengths array tile corner lengths t)) (range_with_len 0 (tile_count array tile))

-- these are coordinates of a pixel of the box
pub record IsInBox (corner lengths coordinates : List ℕ) : Type 0 where
  pub axes : length coordinates ≡ length corner
  pub from : (i : ℕ) → i < length corner → slice_index corner i ≤ slice_index coordinates i
  pub before : (i : ℕ) → i < length corner → slice_index coordinates i < slice_index corner i + slice_index lengths i
