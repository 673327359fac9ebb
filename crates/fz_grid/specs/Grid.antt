-- The tiles of an array: a rectangular grid, cut short at the upper ends (FITS 4.0, section 10.1). Tiles are numbered
-- from 0 with axis 1 of the grid varying fastest.
use Rattle.std.specs.Prelude.{ℕ, ◌+◌, ◌-◌, ◌*◌, ◌/◌, min, ℤ, List, [], ◌∷◌, map}
use Rattle.std.specs.List.{flat_map, range_with_len}
use Rattle.fz_grid.specs.Arrays.{NumberArray, at, coordinates_of, product}

-- how many tiles there are along each axis: its length divided by the tile's, rounded up
abbrev pub tile_counts : List ℕ → List ℕ → List ℕ
tile_counts [] tile = []
tile_counts (n ∷ ns) [] = []
tile_counts (n ∷ ns) (t ∷ ts) = ((n + (t - 1)) / t) ∷ tile_counts ns ts

-- how many tiles there are
abbrev pub tile_count : List ℕ → List ℕ → ℕ
tile_count lengths tile = product (tile_counts lengths tile)

-- the least coordinates of a tile with this place along each axis
abbrev pub corner_of : List ℕ → List ℕ → List ℕ
corner_of [] tile = []
corner_of (d ∷ ds) [] = []
corner_of (d ∷ ds) (t ∷ ts) = (d * t) ∷ corner_of ds ts

-- the least coordinates of tile t
abbrev pub tile_corner : List ℕ → List ℕ → ℕ → List ℕ
tile_corner lengths tile t = corner_of (coordinates_of (tile_counts lengths tile) t) tile

-- the tile's lengths from a corner on, where the array ends
abbrev pub lengths_from : List ℕ → List ℕ → List ℕ → List ℕ
lengths_from [] tile corner = []
lengths_from (n ∷ ns) [] corner = []
lengths_from (n ∷ ns) (t ∷ ts) [] = []
lengths_from (n ∷ ns) (t ∷ ts) (c ∷ cs) = min t (n - c) ∷ lengths_from ns ts cs

-- the lengths of tile t
abbrev pub tile_lengths : List ℕ → List ℕ → ℕ → List ℕ
tile_lengths lengths tile t = lengths_from lengths tile (tile_corner lengths tile t)

-- the coordinates of a box of these lengths, axis 1 fastest
abbrev pub box_coordinates : List ℕ → List (List ℕ)
box_coordinates [] = [] ∷ []
box_coordinates (n ∷ ns) = flat_map (λ rest. map (λ c. c ∷ rest) (range_with_len 0 n)) (box_coordinates ns)

-- coordinates counted from a corner, as coordinates of the array
abbrev pub moved : List ℕ → List ℕ → List ℕ
moved [] coordinates = []
moved (o ∷ os) [] = []
moved (o ∷ os) (c ∷ cs) = (o + c) ∷ moved os cs

-- the coordinates of the pixels of tile t, axis 1 fastest
abbrev pub tile_coordinates : List ℕ → List ℕ → ℕ → List (List ℕ)
tile_coordinates array tile t = map (moved (tile_corner array tile t)) (box_coordinates (tile_lengths array tile t))

-- the numbers of tile t, axis 1 fastest
unfoldable pub tile : NumberArray → List ℕ → ℕ → List ℤ
tile a lengths t = map (at a) (tile_coordinates a.lengths lengths t)
