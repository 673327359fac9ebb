-- What the functions that cut a box promise each other.
use Rattle.std.specs.Prelude.{ℕ, ◌≡◌, ◌<◌, IsTrue, ℤ, List, length, slice_index, Contains}
use Rattle.fz_grid.specs.Arrays.{NumberArray, IsArray}
use Rattle.fz_grid.specs.Cutout.{part_lengths, picked_numbers, picks_in_cutout, picks_in_tile}
use Rattle.fz_grid.specs.Grid.{tile}
use Rattle.fz_grid.specs.Overlap.{has_pixel}
use Rattle.fz_grid.specs.Region.{lengths_of}
use Rattle.fz_grid.specs.declared.sieve.Sieve.{Sieve}
use Rattle.fz_tile.specs.Pixels.{HoldPixels, place_count, places}
use Rattle.fz_head.specs.declared.plan.Plan.{Plan}
use Rattle.fz_checks.specs.declared.job_checks.PackedImage.{PackedImage}
use Rattle.fz_flat.specs.Boxes.{MeansTile, picked_in}
use Rattle.fz_flat.specs.Placed.{HasPixelsOf, IsNearer}
use Rattle.fz_flat.specs.Tiles.{pixel_bits, tiles_in}

-- a tile of the image that has a pixel of the box
pub record HasPick (p : Plan) (sieve : Sieve) (t : ℕ) : Type 0 where
  pub known : t < tiles_in p
  pub picked : IsTrue (has_pixel (part_lengths (lengths_of p.shape) (lengths_of p.tile) sieve t))

-- the places of the pixels of tile t that are in the box, in the box and in the tile
abbrev pub in_box : Plan → Sieve → ℕ → List ℕ
in_box p sieve t = picks_in_cutout (lengths_of p.shape) (lengths_of p.tile) sieve t

abbrev pub in_tile : Plan → Sieve → ℕ → List ℕ
in_tile p sieve t = picks_in_tile (lengths_of p.shape) (lengths_of p.tile) sieve t

abbrev pub width_of : Plan → ℕ
width_of p = place_count (pixel_bits p) 1

-- Tile t stands for pixels. Each place of the box is as before, or as in a whole that has these pixels at the places of the tile, which are
-- as in the whole.
pub record PlacesTile (image : PackedImage) (sieve : Sieve) (from : ℕ) (rows : List ℕ) (at : ℕ) (codes : List ℕ) (t : ℕ) (before out : List ℤ) : Type 0 where
  pub pixels : List ℤ
  pub means : MeansTile image from rows at codes t pixels
  pub inside : (k : ℕ) → k < length (in_tile image.plan sieve t) → slice_index (in_tile image.plan sieve t) k < length pixels
  pub nearer : (whole : List ℤ)
      → HasPixelsOf (width_of image.plan) whole (in_box image.plan sieve t) (places (pixel_bits image.plan) pixels) (in_tile image.plan sieve t)
      → IsNearer (width_of image.plan) whole before out (in_box image.plan sieve t)

-- the numbers hold the pixels of the box
pub record AreCut (image : PackedImage) (sieve : Sieve) (from : ℕ) (rows : List ℕ) (at : ℕ) (codes : List ℕ) (out : List ℤ) : Type 0 where
  pub array : NumberArray
  pub lengths : array.lengths ≡ lengths_of image.plan.shape
  pub whole : IsArray array
  pub tiles : (t : ℕ) → Contains (picked_in image.plan sieve) t → MeansTile image from rows at codes t (tile array (lengths_of image.plan.tile) t)
  pub hold : HoldPixels (pixel_bits image.plan) out (picked_numbers array sieve)
