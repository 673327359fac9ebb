-- The numbers that an image has after a patch: within the box those that are given, and everywhere else the old ones (FITS 4.0, sections
-- 3.3.2 and 10.1).
use Rattle.std.specs.Prelude.{ℕ, ◌+◌, ◌-◌, ◌&&◌, nat_le, nat_lt, Bool, true, false, ℤ, List, [], ◌∷◌, map, zip, if◌then◌else◌}
use Rattle.fz_grid.specs.Arrays.{NumberArray, at}
use Rattle.fz_grid.specs.Grid.{box_coordinates, tile_coordinates}
use Rattle.fz_grid.specs.Region.{lengths_of}
use Rattle.fz_head.specs.declared.plan.Plan.{Plan}
use Rattle.fz_files.specs.FirstFault.{picked_tiles_of}
use Rattle.fz_laws.specs.Given.{Given, box_sieve}

-- whether these coordinates lie in the box of this corner and these lengths
abbrev pub is_in_box : List ℕ → List ℕ → List ℕ → Bool
is_in_box [] lengths coordinates = true
is_in_box (o ∷ os) [] coordinates = false
is_in_box (o ∷ os) (n ∷ ns) [] = false
is_in_box (o ∷ os) (n ∷ ns) (c ∷ cs) = nat_le o c && (nat_lt c (o + n) && is_in_box os ns cs)

-- coordinates of the image, counted from a corner
abbrev pub from_corner : List ℕ → List ℕ → List ℕ
from_corner [] coordinates = []
from_corner (o ∷ os) [] = []
from_corner (o ∷ os) (c ∷ cs) = (c - o) ∷ from_corner os cs

-- the new number of the pixel at these coordinates, which had this number
abbrev pub new_number : Given → List ℕ → ℤ → ℤ
new_number g coordinates x =
    if is_in_box g.corner g.array.lengths coordinates then at g.array (from_corner g.corner coordinates) else x

-- the new numbers of pixels at these coordinates, which had these numbers
abbrev pub new_at : Given → List (List ℕ) → List ℤ → List ℤ
new_at g coordinates xs = map (λ pixel. new_number g pixel.0 pixel.1) (zip coordinates xs)

-- the new numbers of tile t of an image, which had these, axis 1 fastest
abbrev pub new_numbers : Plan → Given → ℕ → List ℤ → List ℤ
new_numbers p g t xs = new_at g (tile_coordinates (lengths_of p.shape) (lengths_of p.tile) t) xs

-- an array with the box replaced
abbrev pub replaced : Given → NumberArray → NumberArray
replaced g a = record { lengths = a.lengths; numbers = new_at g (box_coordinates a.lengths) a.numbers }

-- the tiles that have a pixel in the box, ascending
abbrev pub box_tiles : Plan → Given → List ℕ
box_tiles p g = picked_tiles_of p (box_sieve g)
