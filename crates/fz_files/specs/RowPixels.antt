-- The rows of packed images, and the pixels that a row stands for or its fault, by the bytes of the file only (FITS 4.0, sections 7.3.5
-- and 10.1.3).
use Rattle.std.specs.Prelude.{ℕ, ℤ, List, [], ◌∷◌, Option, Some, None, Result, Ok, Err}
use Rattle.fz_base.specs.Refusal.{refusal}
use Rattle.fz_base.specs.declared.fault.Fault.{Fault}
use Rattle.fz_base.specs.declared.fault.Place.TheVariants.{Row as AtRow}
use Rattle.fz_block.specs.declared.header.Header.{Header}
use Rattle.fz_table.specs.Records.{record_at, record_bytes}
use Rattle.fz_table.specs.declared.record.Record.{Record}
use Rattle.fz_tile.specs.declared.fault.TileFault.{TileFault}
use Rattle.fz_checks.specs.TileKinds.{kind_of_tile}
use Rattle.fz_files.specs.Packed.{pixel_bits}
use Rattle.fz_files.specs.RecordPixels.{record_pixels}
use Rattle.fz_files.specs.Restored.{image_table, pixels_of, place_in, plan_in, tile_of}

-- a row of the packed image with this header
pub record ImageRow : Type 0 where
  pub header : Header
  pub row : ℕ

abbrev pub image_row : Header → ℕ → ImageRow
image_row h row = record { header = h; row = row }

-- what is wrong with the record of a row is a fault of the row
abbrev pub for_row : ImageRow → Result (List ℤ) TileFault → Result (List ℤ) Fault
for_row r (Ok xs) = Ok xs
for_row r (Err why) = Err (refusal r.header.hdu (AtRow r.row) (kind_of_tile why))

-- the pixels of a record of the file
abbrev pub pixels_found : List ℕ → ImageRow → Record → Result (List ℤ) TileFault
pixels_found file r found =
    let p = plan_in file r.header in
    record_pixels p.codec (pixel_bits p) (place_in found.column) found.total (pixels_of p r.row) (record_bytes file found)

-- the pixels of a row whose record was found, or the fault of the checks that find it
abbrev pub pixels_after : List ℕ → ImageRow → Result Record Fault → Result (List ℤ) Fault
pixels_after file r (Ok found) = for_row r (pixels_found file r found)
pixels_after file r (Err fault) = Err fault

-- the pixels of the tile of a row, or the fault of the row
abbrev pub row_pixels : List ℕ → ImageRow → Result (List ℤ) Fault
row_pixels file r = pixels_after file r (record_at file r.header.hdu (image_table file r.header) r.row (tile_of (plan_in file r.header) r.row))

-- the fault of a row, or that of the rows after it
abbrev pub fault_or : Result (List ℤ) Fault → Option Fault → Option Fault
fault_or (Ok xs) later = later
fault_or (Err fault) later = Some fault

-- the first fault of some rows, or none
unfoldable pub first_row_fault : List ℕ → List ImageRow → Option Fault
first_row_fault file [] = None
first_row_fault file (r ∷ rs) = fault_or (row_pixels file r) (first_row_fault file rs)
