-- The tiles of one call over a window, in order: what each slot holds of them.
use Rattle.std.specs.Prelude.{◌≡◌, ℕ, ◌<◌, ℤ, List, length, take, map, slice_index_or}
use Rattle.fz_tile.specs.declared.codec.Codec.{Codec}
use Rattle.fz_tile.specs.Pixels.{HoldPixels}
use Rattle.fz_tile.specs.Record.{IsRecord}
use Rattle.fz_tile.specs.TileCode.{TileCode}
use Rattle.fz_pool.specs.declared.slot.Slot.{Slot}
use Rattle.fz_pool.specs.Slots.{bits_of_pixel, numbers_of, numbers_for, record_of}

-- the slot has the pixels of a tile, which is to be encoded by this codec at so many bits a pixel
pub record HoldsTile (codec : Codec) (bits : ℕ) (x : Slot) (pixels : List ℤ) : Type 0 where
  pub codec_is : x.job.codec ≡ codec
  pub bits_are : bits_of_pixel x.job ≡ bits
  pub hold : HoldPixels bits (numbers_of x) pixels

-- the first slots have the pixels of these tiles, in order
abbrev pub HoldTiles : Codec → ℕ → List Slot → List (List ℤ) → Type 0
HoldTiles codec bits slots tiles =
    (i : ℕ) (d : Slot) (e : List ℤ) → i < length tiles → HoldsTile codec bits (slice_index_or slots i d) (slice_index_or tiles i e)

-- the bytes that a slot was encoded to, and their place
abbrev pub coded_tile : Slot → TileCode
coded_tile x = record { place = x.job.place; bytes = record_of x }

-- those of the first slots, in order
abbrev pub coded_tiles : ℕ → List Slot → List TileCode
coded_tiles count slots = map coded_tile (take count slots)

-- the record of the slot x stands for these pixels, and the slot y that came of it has them
pub record IsTileOf (x y : Slot) (pixels : List ℤ) : Type 0 where
  pub count : length pixels ≡ x.job.pixels
  pub are : IsRecord x.job.codec (bits_of_pixel x.job) x.job.place x.job.total (record_of x) pixels
  pub hold : HoldPixels (bits_of_pixel x.job) (numbers_for x y) pixels

-- the same for the first slots and these tiles, in order
abbrev pub AreTilesOf : List Slot → List Slot → List (List ℤ) → Type 0
AreTilesOf old new tiles =
    (i : ℕ) (d : Slot) (e : List ℤ) → i < length tiles
    → IsTileOf (slice_index_or old i d) (slice_index_or new i d) (slice_index_or tiles i e)
