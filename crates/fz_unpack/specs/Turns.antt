-- Tiles in the two halves of a window: those of one are scattered while those of the other are fetched.
use Rattle.std.specs.Prelude.{ℕ, ◌≡◌, ◌+◌, ◌*◌, ◌/◌, ◌^◌, ◌<◌, ◌≤◌, Bool, IsTrue, ℤ, List, length, replicate, slice_index, Option, Result, OnOk}
use Rattle.fz_base.specs.declared.failure.Stop.{Stop}
use Rattle.fz_base.specs.FirstByte.{StaysShut}
use Rattle.fz_base.specs.Told.{StaysTold}
use Rattle.std.specs.List.{range_with_len}
use Rattle.fz_block.specs.declared.header.Header.{Header}
use Rattle.fz_grid.specs.Arrays.{product}
use Rattle.fz_grid.specs.Region.{IsDivided, lengths_of}
use Rattle.fz_tile.specs.Pixels.{IsBitpix}
use Rattle.fz_checks.specs.declared.job_checks.PackedImage.{PackedImage}
use Rattle.fz_head.specs.declared.plan.Plan.{Plan}
use Rattle.fz_files.specs.Packed.{pixel_bits, tiles_in}
use Rattle.fz_files.specs.Restored.{pixels_of}
use Rattle.fz_pool.specs.Window.{HasSlotsFor, Pool, slot_sizes}
use Rattle.fz_fetch.specs.Fetched.{AreFetched, HaveTiles}
use Rattle.fz_pixels.specs.Scattered.{tiles_written}

-- the slots of a window are all of these lengths
abbrev pub AreAlike : ℕ × ℕ → Pool → Type 0
AreAlike size w = slot_sizes w.slots ≡ replicate (2 * w.workers) size

-- the slots of both halves are alike, and have room for a tile of the image
abbrev pub HaveRooms : PackedImage → Pool → Pool → Type 0
HaveRooms image first second = (n : ℕ) × AreAlike (2 * n, 8 * n + 64) first × AreAlike (2 * n, 8 * n + 64) second × (pixels_of image.plan 0 ≤ n)

-- the tiles in the first slots can be scattered
pub record CanScatter (p : Plan) (at : ℕ) (created : Bool) (tiles : List ℕ) (w : Pool) : Type 0 where
  pub created_is : IsTrue created
  pub behind : 0 < at
  pub near : at + pixel_bits p / 8 * product (lengths_of p.shape) < 2 ^ 64
  pub divided : IsDivided p.shape p.tile
  pub size : IsBitpix p.bitpix
  pub few : length tiles ≤ 2 * w.workers
  pub window : HasSlotsFor (pixels_of p 0) w
  pub are : (i : ℕ) → i < length tiles → slice_index tiles i < tiles_in p
  pub pixels : (pixels : List (List ℤ)) × HaveTiles p tiles w.slots pixels

-- they were scattered
pub record HasScattered
    {X : Type 0} (p : Plan) (at : ℕ) (tiles : List ℕ) (w w' : Pool) (created created' : Bool)
    (contents contents' : Option (List ℕ)) (result : Result X Stop) : Type 0 where
  pub written : OnOk result ((pixels : List (List ℤ)) → HaveTiles p tiles w.slots pixels → contents' ≡ tiles_written p at tiles pixels contents)
  pub shut : StaysShut contents contents'
  pub told : StaysTold contents contents'
  pub sizes : slot_sizes w'.slots ≡ slot_sizes w.slots
  pub workers : w'.workers ≡ w.workers
  pub created_is : created' ≡ created

-- so many tiles are written, and the first slots have the pixels that the rows of so many after them stand for
pub record StandFetched (file : Option (List ℕ)) (h : Header) (p : Plan) (written decoded tiles : ℕ) (w : Pool) : Type 0 where
  pub within : written + decoded ≤ tiles
  pub few : decoded ≤ 2 * w.workers
  pub fetched : AreFetched file h p (range_with_len written decoded) w.slots
