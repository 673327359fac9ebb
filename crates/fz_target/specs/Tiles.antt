-- A tile in slot 0 of the window: its pixels, and then the code of its new ones (FITS 4.0, section 10.1.3).
use Rattle.std.specs.Prelude.{ℕ, ◌≡◌, ◌+◌, ◌*◌, ◌/◌, ◌^◌, ◌<◌, ◌≤◌, ℤ, List, ◌++◌, length, take, drop, All, IsTrue, slice_index_or, Option, IfSome}
use Rattle.fz_bits.specs.Numbers.{IsNumber}
use Rattle.fz_block.specs.declared.header.Header.{Header}
use Rattle.fz_fetch.specs.Fetched.{HasTile}
use Rattle.fz_job.specs.Images.{HasSlotFor}
use Rattle.fz_files.specs.Packed.{pixel_bits, tiles_in}
use Rattle.fz_files.specs.Restored.{RowStandsFor, pixels_of}
use Rattle.fz_grid.specs.Overlap.{has_pixel}
use Rattle.fz_grid.specs.Region.{lengths_of}
use Rattle.fz_grid.specs.Cutout.{part_lengths}
use Rattle.fz_laws.specs.Given.{Given}
use Rattle.fz_laws.specs.PatchLaws.{new_code}
use Rattle.fz_laws.specs.NewNumbers.{new_numbers}
use Rattle.fz_pool.specs.Round.{coded_tile}
use Rattle.fz_pool.specs.Window.{IsFilled, Pool, slot_size}
use Rattle.fz_pool.specs.declared.slot.Job.{Job}
use Rattle.fz_pool.specs.declared.slot.Slot.{Slot}
use Rattle.fz_tile.specs.Pixels.{HoldPixels, place_count}
use Rattle.fz_tile.specs.Plain.{stored_pixels}
use Rattle.fz_tile.specs.TileCode.{TileCode, tile_code}
use Rattle.fz_tile.specs.declared.coded.Place2.TheVariants.{Coded}
use Rattle.fz_head.specs.declared.plan.Plan.{Plan}
use Rattle.fz_target.specs.Targets.{IsGivenTo, given_at}
use Rattle.fz_target.specs.declared.target.Target.{Target}

-- a tile of the image with a pixel that is replaced
pub record IsBoxTile (t : Target) (tile : ℕ) : Type 0 where
  pub near : tile < tiles_in t.image.plan
  pub picked : IsTrue (has_pixel (part_lengths (lengths_of t.image.plan.shape) (lengths_of t.image.plan.tile) t.sieve tile))

-- what is to be done to encode a tile
abbrev pub encoding_job : Target → ℕ → Job
encoding_job t tile = record {
  tile = tile;
  pixels = pixels_of t.image.plan tile;
  codec = t.image.plan.codec;
  bitpix = t.image.plan.bitpix;
  place = Coded;
  len = 0;
  total = 0;
}

-- The slot y has the pixels of a tile that x had, but those of PATCH in the place of their own, and is to be encoded.
pub record IsFilledSlot (t : Target) (tile : ℕ) (given : Option (List ℕ)) (x y : Slot) : Type 0 where
  pub job : y.job ≡ encoding_job t tile
  pub few : (1 ≤ pixels_of t.image.plan tile) × (pixels_of t.image.plan tile ≤ 2 ^ 26)
  pub room : HasSlotFor (pixels_of t.image.plan tile) (slot_size y)
  pub some : (ys : List ℤ) × HasTile t.image.plan tile y ys
  pub new :
      IfSome given
      (λ patch. (corner : List ℕ) (xs : List ℤ) → IsGivenTo corner patch t → HasTile t.image.plan tile x xs
      → HasTile t.image.plan tile y (new_numbers t.image.plan (given_at corner patch) tile xs))

-- the code that a slot has
abbrev pub HasCode : TileCode → Slot → Type 0
HasCode code x = (coded_tile x ≡ code) × (x.job.len ≡ length code.bytes)

-- slot 0 does
abbrev pub HasFirst : (Slot → Type 0) → Pool → Type 0
HasFirst P w = (d : Slot) → P (slice_index_or w.slots 0 d)

-- this is slot 0
abbrev pub IsFirstOf : Pool → Slot → Type 0
IsFirstOf w x = (d : Slot) → slice_index_or w.slots 0 d ≡ x

-- Slot 0 has the code of some pixels of a tile, which has at least one, and not more than a tile may have.
pub record HasSomeCode (p : Plan) (tile : ℕ) (w : Pool) : Type 0 where
  pub pixels : List ℤ
  pub count : length pixels ≡ pixels_of p tile
  pub some : 1 ≤ length pixels
  pub few : length pixels ≤ 2 ^ 26
  pub numbers : All (IsNumber (pixel_bits p)) pixels
  pub filled : IsFilled w
  pub workers : 1 ≤ w.workers
  pub code : HasFirst (HasCode (tile_code p.codec (pixel_bits p) pixels)) w

-- slot 0 has the code of the new pixels of a tile, whose old ones the row of the file stands for
abbrev pub HasNewCode : List ℕ → Header → Plan → Given → ℕ → Pool → Type 0
HasNewCode file h p g tile w = (xs : List ℤ) → RowStandsFor file h tile xs → HasFirst (HasCode (new_code p g tile xs)) w

-- so many pixels of PATCH, from this one on
abbrev pub given_pixels : Target → ℕ → ℕ → List ℕ → List ℤ
given_pixels t from count patch =
    stored_pixels (pixel_bits t.image.plan) count (drop (t.pixels_at + pixel_bits t.image.plan / 8 * from) patch)

-- a list with this piece, from a place on, in the place of its own
abbrev pub with_piece : {A : Type 0} → ℕ → List A → List A → List A
with_piece at piece xs = take at xs ++ (piece ++ drop (at + length piece) xs)

-- Numbers that held pixels hold them with a piece from one place on, of so many pixels: those of PATCH from this one on, if it shows its bytes.
pub record HasPiece (t : Target) (to from count : ℕ) (given : Option (List ℕ)) (old new : List ℤ) : Type 0 where
  pub piece : List ℤ
  pub count_is : length piece ≡ count
  pub are : IfSome given (λ patch. piece ≡ given_pixels t from count patch)
  pub hold :
      (xs : List ℤ) → to + count ≤ length xs → 2 * length xs ≤ length old →
      HoldPixels (pixel_bits t.image.plan) (take (place_count (pixel_bits t.image.plan) (length xs)) old) xs →
      HoldPixels (pixel_bits t.image.plan) (take (place_count (pixel_bits t.image.plan) (length xs)) new) (with_piece to piece xs)
