-- Boxes of an image whose pixels are at hand (FITS 4.0, sections 3.3.2 and 10.1).
use Rattle.std.specs.Prelude.{ℕ, ◌≡◌, ◌+◌, ◌-◌, ◌*◌, ◌/◌, ◌<◌, ◌≤◌, List, [], ◌∷◌, ◌++◌, take, replicate, length, slice_index, Some}
use Rattle.fz_block.specs.declared.axes.Axes.{Axes}
use Rattle.fz_block.specs.declared.header.Header.{Header}
use Rattle.fz_grid.specs.Arrays.{product}
use Rattle.fz_grid.specs.Grid.{tile as tile_of}
use Rattle.fz_grid.specs.Region.{IsWithin, lengths_of, region_corner, region_lengths}
use Rattle.fz_grid.specs.declared.region.Region.{Region}
use Rattle.fz_grid.specs.declared.sieve.Sieve.{Sieve}
use Rattle.fz_grid.specs.Cutout.{picked_numbers}
use Rattle.fz_tile.specs.Plain.{plain_bytes}
use Rattle.fz_head.specs.declared.plan.Plan.{Plan}
use Rattle.fz_files.specs.Packed.{pixel_bits}
use Rattle.fz_files.specs.Restored.{plan_in}
use Rattle.fz_files.specs.RestoredFile.{image_array}
use Rattle.fz_pixels.specs.Scattered.{part_written}

-- the last coordinates of a region along each axis
abbrev pub last_of : List ℕ → List ℕ → List ℕ
last_of [] lens = []
last_of (lo ∷ los) [] = []
last_of (lo ∷ los) (l ∷ lens) = (lo + (l - 1)) ∷ last_of los lens

-- the sieve that picks all pixels of a region
abbrev pub sieve_in : Region → Sieve
sieve_in r = record {
  n = r.n;
  lo = r.lo;
  hi = last_of (region_corner r) (region_lengths r) ++ replicate (9 - r.n) 0;
  step = replicate 9 1;
}

-- the lengths of a tile that may divide an array of these
pub record IsTileOf (shape tile : Axes) : Type 0 where
  pub same_axes : tile.n ≡ shape.n
  pub positive : (i : ℕ) → i < shape.n → 1 ≤ slice_index tile.len i
  pub inside : (i : ℕ) → i < shape.n → slice_index tile.len i ≤ slice_index shape.len i

-- The region lies in the image, and the bytes of its pixels have room in so many.
pub record LiesInImage (p : Plan) (r : Region) (room : ℕ) : Type 0 where
  pub within : IsWithin p.shape r
  pub fits : pixel_bits p / 8 * product (region_lengths r) ≤ room

-- along an axis with this end: so many places from the first on, all before the end, and this one among them
pub record IsAlong (lo len at end : ℕ) : Type 0 where
  pub some : 1 ≤ len
  pub inside : lo + len ≤ end
  pub from : lo ≤ at
  pub to : at < lo + len

-- the coordinates are those of a pixel of the region
abbrev pub HasPixel : Region → List ℕ → Type 0
HasPixel r at = (i : ℕ) → i < r.n → (slice_index r.lo i ≤ slice_index at i) × (slice_index at i < slice_index r.lo i + slice_index r.len i)

-- the first bytes are those of the pixels of a box of the image with this header, which a sieve picks
abbrev pub HasBox : List ℕ → Header → Sieve → List ℕ → Type 0
HasBox g h sieve band =
    let bytes = plain_bytes (pixel_bits (plan_in g h)) (picked_numbers (image_array g h) sieve) in
    take (length bytes) band ≡ bytes

-- the bytes of these pixels after those of them that tile t of the image has were put to their places
abbrev pub HasPart : List ℕ → Header → Plan → Sieve → ℕ → List ℕ → List ℕ → Type 0
HasPart g h p sieve t before now = Some now ≡ part_written p sieve 0 t (tile_of (image_array g h) (lengths_of p.tile) t) (Some before)

-- coordinates counted from the corner of a region
abbrev pub from_corner : List ℕ → List ℕ → List ℕ
from_corner [] at = []
from_corner (lo ∷ los) [] = []
from_corner (lo ∷ los) (c ∷ cs) = (c - lo) ∷ from_corner los cs

abbrev pub inside_of : Region → List ℕ → List ℕ
inside_of r at = from_corner (region_corner r) at
