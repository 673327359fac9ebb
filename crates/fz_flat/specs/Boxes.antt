-- A box of a packed image with a step along each axis, by bytes of the file that somebody has read: which tiles it has, where they are,
-- and its pixels (FITS 4.0, sections 4.4.1, 7.3.5 and 10.1). Some bytes are those of the file from a byte on.
use Rattle.std.specs.Prelude.{ℕ, ◌≡◌, ◌⊎◌, ◌+◌, ◌-◌, ◌*◌, ◌≤◌, ℤ, List, [], ◌∷◌, ◌++◌, Contains, length, map, take, drop, slice_index, Result, Ok, Err}
use Rattle.fz_base.specs.declared.fault.Fault.{Fault}
use Rattle.fz_grid.specs.Arrays.{NumberArray, IsArray, product}
use Rattle.fz_grid.specs.Cutout.{picked_numbers}
use Rattle.fz_grid.specs.Grid.{tile}
use Rattle.fz_grid.specs.Region.{lengths_of}
use Rattle.fz_grid.specs.Sieve.{picked_tiles, sieve_hi, sieve_lengths, sieve_lo, sieve_step}
use Rattle.fz_grid.specs.declared.sieve.Sieve.{Sieve}
use Rattle.fz_table.specs.Rows.{row_start}
use Rattle.fz_table.specs.declared.record.Record.{Record}
use Rattle.fz_tile.specs.Pixels.{HoldPixels, place_count}
use Rattle.fz_tile.specs.Record.{IsRecord}
use Rattle.fz_tile.specs.declared.fault.TileFault.{TileFault}
use Rattle.fz_head.specs.declared.plan.Plan.{Plan}
use Rattle.fz_checks.specs.TileKinds.{kind_of_tile}
use Rattle.fz_checks.specs.declared.job_checks.PackedImage.{PackedImage}
use Rattle.fz_flat.specs.Rows.{TileIsFaulty, flat_record, row_says}
use Rattle.fz_flat.specs.Tiles.{pixel_bits, pixels_of, place_in, places_of}
use Rattle.fz_flat.specs.declared.boxes.FzBox.{FzBox}
use Rattle.fz_flat.specs.declared.needs.FzNeeds.{FzNeeds}
use Rattle.fz_flat.specs.declared.record.FzRecord.{FzRecord}
use Rattle.fz_flat.specs.declared.stops.Stopped.{Stopped}
use Rattle.fz_flat.specs.declared.stops.Why.TheVariants.{FewRows, FewBytes, Refused}

-- the pixels of a box are the picks of this sieve
abbrev pub sieve_there : FzBox → Sieve
sieve_there b = record { n = b.axes; lo = b.first; hi = b.last; step = b.step }

-- the tiles that have a pixel of the box, ascending
abbrev pub picked_in : Plan → Sieve → List ℕ
picked_in p sieve = picked_tiles (lengths_of p.shape) (lengths_of p.tile) (sieve_lo sieve) (sieve_hi sieve) (sieve_step sieve)

-- the first and the last of them
abbrev pub first_in : Plan → Sieve → ℕ
first_in p sieve = slice_index (picked_in p sieve) 0

abbrev pub last_in : Plan → Sieve → ℕ
last_in p sieve = slice_index (picked_in p sieve) (length (picked_in p sieve) - 1)

-- how many places the pixels of the box take
abbrev pub numbers_in : Plan → Sieve → ℕ
numbers_in p sieve = place_count (pixel_bits p) (product (sieve_lengths sieve))

-- what a box needs
abbrev pub needs_of : PackedImage → Sieve → FzNeeds
needs_of image sieve = record {
  rows_at = row_start image.table (first_in image.plan sieve);
  rows_len = image.table.row_bytes * (last_in image.plan sieve + 1 - first_in image.plan sieve);
  numbers = numbers_in image.plan sieve;
  tiles = length (picked_in image.plan sieve);
  places = places_of image.plan 0;
}

-- ---- what was read

-- so many bytes from byte `start` of the file on are among those that were read, as many from another byte on
pub record AreAmong (from count start len : ℕ) : Type 0 where
  pub begin : from ≤ start
  pub end : start + len ≤ from + count

-- the row of tile t is among those that were read
abbrev pub HasRow : PackedImage → ℕ → List ℕ → ℕ → Type 0
HasRow image from rows t = AreAmong from (length rows) (row_start image.table t) image.table.row_bytes

-- the record that it says
abbrev pub said_at : PackedImage → ℕ → List ℕ → ℕ → Result Record Fault
said_at image from rows t = row_says 0 image (drop (row_start image.table t - from) rows) t

-- the bytes of a record that are read are among those that were read
abbrev pub HasRecord : ℕ → List ℕ → Record → Type 0
HasRecord at codes found = AreAmong at (length codes) found.start found.read

abbrev pub bytes_of : ℕ → List ℕ → Record → List ℕ
bytes_of at codes found = take found.read (drop (found.start - at) codes)

-- ---- the records of the tiles

-- the row of tile t was read, and says a record
pub record SaysRecord (image : PackedImage) (from : ℕ) (rows : List ℕ) (t : ℕ) (found : Record) : Type 0 where
  pub row_there : HasRow image from rows t
  pub says : said_at image from rows t ≡ Ok found

-- so do the rows of these tiles, one after another
abbrev pub SayRecords : PackedImage → ℕ → List ℕ → List ℕ → List Record → Type 0
SayRecords image from rows [] founds = founds ≡ []
SayRecords image from rows (t ∷ ts) [] = ⊥
SayRecords image from rows (t ∷ ts) (found ∷ founds) = SaysRecord image from rows t found × SayRecords image from rows ts founds

-- the records of these tiles are at the front of a list; what is after them stays
pub record AreListed (image : PackedImage) (from : ℕ) (rows ts : List ℕ) (before reads : List FzRecord) : Type 0 where
  pub founds : List Record
  pub say : SayRecords image from rows ts founds
  pub are : reads ≡ map flat_record founds ++ drop (length founds) before

-- the row of a tile gives no record: it was not read, or it is refused
pub data RowStops (image : PackedImage) (from : ℕ) (rows : List ℕ) (stopped : Stopped) : Type 0 where
  no_row : ¬ HasRow image from rows stopped.tile → stopped.why ≡ FewRows → RowStops image from rows stopped
  refused : (x : Fault) → HasRow image from rows stopped.tile → said_at image from rows stopped.tile ≡ Err x → stopped.why ≡ Refused x.kind
      → RowStops image from rows stopped

-- the first of these rows that gives none stops
abbrev pub RowsStop : PackedImage → ℕ → List ℕ → List ℕ → Stopped → Type 0
RowsStop image from rows [] stopped = ⊥
RowsStop image from rows (t ∷ ts) stopped =
    ((stopped.tile ≡ t) × RowStops image from rows stopped)
    ⊎ (((found : Record) × SaysRecord image from rows t found) × RowsStop image from rows ts stopped)

-- ---- the pixels

-- tile t stands for these pixels: its row says a record that was read, and that means them
pub record MeansTile (image : PackedImage) (from : ℕ) (rows : List ℕ) (at : ℕ) (codes : List ℕ) (t : ℕ) (xs : List ℤ) : Type 0 where
  pub found : Record
  pub says : SaysRecord image from rows t found
  pub record_there : HasRecord at codes found
  pub count : length xs ≡ pixels_of image.plan t
  pub means : IsRecord image.plan.codec (pixel_bits image.plan) (place_in found.column) found.total (bytes_of at codes found) xs

-- The pixels of the box, axis 1 fastest, are at the front of `out`: those of an array for whose tiles the tiles with a pixel of the box
-- stand. What is after them stays.
pub record HasBox (image : PackedImage) (sieve : Sieve) (from : ℕ) (rows : List ℕ) (at : ℕ) (codes : List ℕ) (before out : List ℤ) : Type 0 where
  pub array : NumberArray
  pub lengths : array.lengths ≡ lengths_of image.plan.shape
  pub whole : IsArray array
  pub tiles : (t : ℕ) → Contains (picked_in image.plan sieve) t → MeansTile image from rows at codes t (tile array (lengths_of image.plan.tile) t)
  pub hold : HoldPixels (pixel_bits image.plan) (take (numbers_in image.plan sieve) out) (picked_numbers array sieve)
  pub rest : drop (numbers_in image.plan sieve) out ≡ drop (numbers_in image.plan sieve) before

-- a tile gives no pixels: its row gives no record, this was not read, or it stands for no pixels
pub data TileStops (image : PackedImage) (from : ℕ) (rows : List ℕ) (at : ℕ) (codes : List ℕ) (stopped : Stopped) : Type 0 where
  row_stops : RowStops image from rows stopped → TileStops image from rows at codes stopped
  no_record : (found : Record) → SaysRecord image from rows stopped.tile found → ¬ HasRecord at codes found → stopped.why ≡ FewBytes
      → TileStops image from rows at codes stopped
  faulty : (found : Record) → SaysRecord image from rows stopped.tile found → HasRecord at codes found → (fault : TileFault)
      → TileIsFaulty image.plan stopped.tile found (bytes_of at codes found) fault → stopped.why ≡ Refused (kind_of_tile fault)
      → TileStops image from rows at codes stopped

-- the first of these tiles that gives none stops
abbrev pub TilesStop : PackedImage → ℕ → List ℕ → ℕ → List ℕ → List ℕ → Stopped → Type 0
TilesStop image from rows at codes [] stopped = ⊥
TilesStop image from rows at codes (t ∷ ts) stopped =
    ((stopped.tile ≡ t) × TileStops image from rows at codes stopped)
    ⊎ (((xs : List ℤ) × MeansTile image from rows at codes t xs) × TilesStop image from rows at codes ts stopped)
