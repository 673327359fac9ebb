-- Each place of an array lies in one tile, once (FITS 4.0, section 10.1).
use Rattle.std.specs.Prelude.{◌≡◌, ℕ, ◌<◌, List, [], length, slice_index, slice_index_or}
use Rattle.fz_grid.specs.Grid.{tile_coordinates, tile_corner, tile_count, tile_lengths}
use Rattle.fz_grid.specs.Region.{places_of}

-- a tile has a length above 0 along each axis of the array
pub record AreTileLengths (array tile : List ℕ) : Type 0 where
  pub axes : length tile ≡ length array
  pub positive : (i : ℕ) → i < length array → 0 < slice_index tile i

-- the k-th pixel of tile t has these coordinates
pub record IsPixel (array tile coordinates : List ℕ) (t k : ℕ) : Type 0 where
  pub tile_in : t < tile_count array tile
  pub pixel_in : k < length (tile_coordinates array tile t)
  pub here : slice_index_or (tile_coordinates array tile t) k [] ≡ coordinates

-- exactly one pixel of exactly one tile has these coordinates
pub record IsInOneTile (array tile coordinates : List ℕ) : Type 0 where
  pub tile_number : ℕ
  pub pixel_number : ℕ
  pub found : IsPixel array tile coordinates tile_number pixel_number
  pub only : (t k : ℕ) → IsPixel array tile coordinates t k → (t ≡ tile_number) × (k ≡ pixel_number)

-- the numbers that the pixels of tile t have in the array, axis 1 fastest
abbrev pub tile_places : List ℕ → List ℕ → ℕ → List ℕ
tile_places array tile t = places_of array (tile_corner array tile t) (tile_lengths array tile t)

-- the k-th pixel of tile t has this number in the array
pub record IsPlace (array tile : List ℕ) (place t k : ℕ) : Type 0 where
  pub tile_in : t < tile_count array tile
  pub pixel_in : k < length (tile_places array tile t)
  pub here : slice_index (tile_places array tile t) k ≡ place

-- exactly one pixel of exactly one tile has this number
pub record IsPlacedOnce (array tile : List ℕ) (place : ℕ) : Type 0 where
  pub tile_number : ℕ
  pub pixel_number : ℕ
  pub found : IsPlace array tile place tile_number pixel_number
  pub only : (t k : ℕ) → IsPlace array tile place t k → (t ≡ tile_number) × (k ≡ pixel_number)
