-- An array and its tiles, there and back (FITS 4.0, section 10.1).
use Rattle.std.specs.Prelude.{◌≡◌, ℕ, ◌/◌, ◌%◌, ◌<◌, ℤ, pos, List, [], ◌∷◌, length, map, slice_index_or}
use Rattle.std.specs.List.{range_with_len}
use Rattle.fz_grid.specs.Arrays.{NumberArray, coordinates_of, place_of, product}
use Rattle.fz_grid.specs.Grid.{corner_of, lengths_from, tile, tile_count, tile_counts, tile_lengths}

-- along each axis, the tile in which these coordinates lie
abbrev pub tiles_along : List ℕ → List ℕ → List ℕ
tiles_along [] coordinates = []
tiles_along (t ∷ ts) [] = []
tiles_along (t ∷ ts) (c ∷ cs) = (c / t) ∷ tiles_along ts cs

-- these coordinates, counted from the corner of the tile in which they lie
abbrev pub inside_tile : List ℕ → List ℕ → List ℕ
inside_tile [] coordinates = []
inside_tile (t ∷ ts) [] = []
inside_tile (t ∷ ts) (c ∷ cs) = (c % t) ∷ inside_tile ts cs

-- the number of the tile in which these coordinates lie
unfoldable pub tile_at : List ℕ → List ℕ → List ℕ → ℕ
tile_at array tile coordinates = place_of (tile_counts array tile) (tiles_along tile coordinates)

-- the number that the pixel at these coordinates has in its tile
unfoldable pub pixel_at : List ℕ → List ℕ → List ℕ → ℕ
pixel_at array tile coordinates =
    place_of (lengths_from array tile (corner_of (tiles_along tile coordinates) tile)) (inside_tile tile coordinates)

-- the number at these coordinates in a list of tiles
unfoldable pub number_in : List ℕ → List ℕ → List (List ℤ) → List ℕ → ℤ
number_in array tile tiles coordinates =
    slice_index_or (slice_index_or tiles (tile_at array tile coordinates) []) (pixel_at array tile coordinates) (pos 0)

-- the array of these lengths that has these tiles
unfoldable pub joined : List ℕ → List ℕ → List (List ℤ) → NumberArray
joined array tile tiles =
    record {
      lengths = array;
      numbers = map (λ place. number_in array tile tiles (coordinates_of array place)) (range_with_len 0 (product array));
    }

-- there is a list for each tile, and it has as many numbers as the tile has pixels
pub record AreTiles (array tile : List ℕ) (tiles : List (List ℤ)) : Type 0 where
  pub count : length tiles ≡ tile_count array tile
  pub pixels : (t : ℕ) → t < tile_count array tile → length (slice_index_or tiles t []) ≡ product (tile_lengths array tile t)

-- two arrays have the same tiles
abbrev pub HaveSameTiles : List ℕ → NumberArray → NumberArray → Type 0
HaveSameTiles lengths a b = (t : ℕ) → t < tile_count a.lengths lengths → tile a lengths t ≡ tile b lengths t
