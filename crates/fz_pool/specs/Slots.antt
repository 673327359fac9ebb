-- When a slot of the window is ready for its call, and what the call leaves in it. A slot has the places
-- of a tile's numbers and the bytes of its record (FITS 4.0, section 10.1.3).
use Rattle.std.specs.Prelude.{◌≡◌, ℕ, ◌+◌, ◌*◌, ◌^◌, ◌≤◌, ℤ, Bool, true, false, List, length, take, drop, unsigned_abs, Option, Some, None}
use Rattle.fz_tile.specs.declared.fault.TileFault.{TileFault}
use Rattle.fz_tile.specs.Pixels.{HoldPixels, place_count}
use Rattle.fz_tile.specs.Codecs.{CanRead, CanWrite}
use Rattle.fz_tile.specs.Record.{IsRecord, read_len}
use Rattle.fz_tile.specs.Refusals.{IsFault}
use Rattle.fz_tile.specs.TileCode.{tile_code, IsWritten}
use Rattle.fz_pool.specs.declared.slot.Job.{Job}
use Rattle.fz_pool.specs.declared.slot.Slot.{Slot}
use Rattle.fz_pool.specs.declared.task.Task.{Task}
use Rattle.fz_pool.specs.declared.task.Task.TheVariants.{Encode, Decode}

-- the bits of a pixel
abbrev pub bits_of_pixel : Job → ℕ
bits_of_pixel j = unsigned_abs j.bitpix

-- how many places a job uses: one for each pixel, and two at 64 bits
abbrev pub places_of : Job → ℕ
places_of j = place_count (bits_of_pixel j) j.pixels

-- the numbers that the slot's job uses
abbrev pub numbers_of : Slot → List ℤ
numbers_of x = take (places_of x.job) x.numbers

-- the numbers that another slot has in these places
abbrev pub numbers_for : Slot → Slot → List ℤ
numbers_for x y = take (places_of x.job) y.numbers

-- the bytes of the record that the slot's job uses
abbrev pub record_of : Slot → List ℕ
record_of x = take x.job.len x.code

-- the slot has a tile to be encoded, and room for its bytes
pub record IsForEncoding (x : Slot) : Type 0 where
  pub codec : CanWrite x.job.codec x.job.bitpix
  pub pixels : (1 ≤ x.job.pixels) × (x.job.pixels ≤ 2 ^ 26)
  pub places : places_of x.job ≤ length x.numbers
  pub hold : (xs : List ℤ) × HoldPixels (bits_of_pixel x.job) (numbers_of x) xs
  pub room : 8 * x.job.pixels + 64 ≤ length x.code

-- y is the slot x with the bytes of its own tile, their place and their length, and nothing else changed but bytes after them
pub record IsEncoded (x y : Slot) : Type 0 where
  pub written : (xs : List ℤ) → HoldPixels (bits_of_pixel x.job) (numbers_of x) xs
      → IsWritten (tile_code x.job.codec (bits_of_pixel x.job) xs) y.job.place y.job.len y.code
  pub job : y.job ≡ record x.job { place = y.job.place; len = y.job.len }
  pub numbers : y.numbers ≡ x.numbers
  pub fault : y.fault ≡ x.fault
  pub size : length y.code ≡ length x.code

-- the slot has a record to be decoded, and room for its numbers
pub record IsForDecoding (x : Slot) : Type 0 where
  pub codec : CanRead x.job.codec x.job.bitpix
  pub pixels : (1 ≤ x.job.pixels) × (x.job.pixels ≤ 2 ^ 26)
  pub places : places_of x.job ≤ length x.numbers
  pub len : x.job.len ≡ read_len x.job.pixels x.job.total
  pub room : x.job.len ≤ length x.code

-- these bytes of a job's record stand for the pixels that these numbers hold
pub record HasNumbers (j : Job) (bytes : List ℕ) (numbers : List ℤ) : Type 0 where
  pub pixels : List ℤ
  pub count : length pixels ≡ j.pixels
  pub are : IsRecord j.codec (bits_of_pixel j) j.place j.total bytes pixels
  pub hold : HoldPixels (bits_of_pixel j) numbers pixels

-- these bytes of a job's record stand for no numbers, for this reason
abbrev pub HasFault : Job → List ℕ → TileFault → Type 0
HasFault j bytes fault = IsFault j.codec (bits_of_pixel j) j.place j.total bytes j.pixels fault

-- if there is no fault the record gives these numbers, otherwise this is its fault
abbrev pub ReadsAs : Job → List ℕ → List ℤ → Option TileFault → Type 0
ReadsAs j bytes numbers None = HasNumbers j bytes numbers
ReadsAs j bytes numbers (Some fault) = HasFault j bytes fault

-- y is the slot x with the numbers of its own record, or with its fault and some numbers
pub record IsDecoded (x y : Slot) : Type 0 where
  pub reads : ReadsAs x.job (record_of x) (numbers_for x y) y.fault
  pub job : y.job ≡ x.job
  pub code : y.code ≡ x.code
  pub others : drop (places_of x.job) y.numbers ≡ drop (places_of x.job) x.numbers
  pub size : length y.numbers ≡ length x.numbers

-- the slot is ready to be encoded, or to be decoded
abbrev pub IsReady : Task → Slot → Type 0
IsReady Encode x = IsForEncoding x
IsReady Decode x = IsForDecoding x

-- the slot y is what comes of x
abbrev pub IsResult : Task → Slot → Slot → Type 0
IsResult Encode x y = IsEncoded x y
IsResult Decode x y = IsDecoded x y

-- to encode, or else to decode
abbrev pub task_of : Bool → Task
task_of true = Encode
task_of false = Decode
