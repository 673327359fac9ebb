-- The record of a tile by the bytes of its row, and its pixels by the bytes of its record (FITS 4.0, sections 7.3.5 and 10.1.3).
use Rattle.std.specs.Prelude.{ℕ, ◌≡◌, ◌==◌, List, length, ℤ, take, drop, Option, Some, None, Result, if◌then◌else◌}
use Rattle.fz_base.specs.declared.fault.Fault.{Fault}
use Rattle.fz_table.specs.Records.{record_of}
use Rattle.fz_table.specs.Rows.{row_in}
use Rattle.fz_table.specs.declared.record.Record.{Record}
use Rattle.fz_table.specs.declared.record.TileColumn.{TileColumn}
use Rattle.fz_table.specs.declared.record.TileColumn.TheVariants.{Coded, Stored}
use Rattle.fz_tile.specs.Pixels.{HoldPixels}
use Rattle.fz_tile.specs.Record.{IsRecord, read_len}
use Rattle.fz_tile.specs.Refusals.{IsFault}
use Rattle.fz_tile.specs.declared.fault.TileFault.{TileFault}
use Rattle.fz_head.specs.declared.plan.Plan.{Plan}
use Rattle.fz_checks.specs.declared.job_checks.PackedImage.{PackedImage}
use Rattle.fz_flat.specs.Tiles.{pixel_bits, pixels_of, place_in, places_of, tile_of}
use Rattle.fz_flat.specs.declared.record.FzRecord.{FzRecord}

abbrev pub column_number : TileColumn → ℕ
column_number Coded = 0
column_number Stored = 1

-- a record in numbers, there and back
abbrev pub flat_record : Record → FzRecord
flat_record found = record { start = found.start; total = found.total; read = found.read; column = column_number found.column }

abbrev pub record_as : FzRecord → TileColumn → Record
record_as r column = record { column = column; start = r.start; total = r.total; read = r.read }

abbrev pub record_there : FzRecord → Option Record
record_there r = if r.column == 0 then Some (record_as r Coded) else (if r.column == 1 then Some (record_as r Stored) else None)

-- the record of tile t that its row says, whose bytes are at the front of these; or the first check that refuses the row
abbrev pub row_says : ℕ → PackedImage → List ℕ → ℕ → Result Record Fault
row_says hdu image row t = record_of hdu t image.table (row_in image.table row) (tile_of image.plan t)

-- how many bytes of a record of tile t are read
abbrev pub read_of : Plan → ℕ → Record → ℕ
read_of p t found = read_len (pixels_of p t) found.total

-- A record of tile t stands for pixels, which so many first numbers hold; those after them stay. These bytes were read of it.
pub record TileMeans (p : Plan) (t : ℕ) (found : Record) (bytes : List ℕ) (before numbers : List ℤ) : Type 0 where
  pub pixels : List ℤ
  pub count : length pixels ≡ pixels_of p t
  pub are : IsRecord p.codec (pixel_bits p) (place_in found.column) found.total bytes pixels
  pub hold : HoldPixels (pixel_bits p) (take (places_of p t) numbers) pixels
  pub rest : drop (places_of p t) numbers ≡ drop (places_of p t) before

-- it stands for no pixels of the tile, for this reason
abbrev pub TileIsFaulty : Plan → ℕ → Record → List ℕ → TileFault → Type 0
TileIsFaulty p t found bytes why = IsFault p.codec (pixel_bits p) (place_in found.column) found.total bytes (pixels_of p t) why
