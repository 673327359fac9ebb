-- The cutout of a packed image, and the ranges of the file that it is read from (FITS 4.0, sections 4.4.1 and 10.1).
use Rattle.std.specs.Prelude.{ℕ, ◌≡◌, ◌-◌, ℤ, List, [], ◌++◌, map, Contains, Option, Some, None}
use Rattle.std.specs.List.{flat_map}
use Rattle.fz_base.specs.declared.fault.Fault.{Fault}
use Rattle.fz_block.specs.Checks.{header_touched}
use Rattle.fz_block.specs.declared.header.Header.{Header}
use Rattle.fz_grid.specs.Arrays.{NumberArray, IsArray}
use Rattle.fz_grid.specs.Grid.{tile}
use Rattle.fz_grid.specs.Region.{lengths_of}
use Rattle.fz_grid.specs.declared.sieve.Sieve.{Sieve}
use Rattle.fz_grid.specs.Cutout.{picked_numbers}
use Rattle.fz_table.specs.Reads.{tile_ranges}
use Rattle.fz_files.specs.declared.job.Job.{Job}
use Rattle.fz_files.specs.declared.job.Job.TheVariants.{Cut}
use Rattle.fz_files.specs.FirstFault.{ImageRow, picked_tiles_of, rows_for}
use Rattle.fz_files.specs.Restored.{RowStandsFor, image_table, plan_in, tile_of}
use Rattle.fz_files.specs.Walks.{Reached, header_fault, headers_for, reached_by}

-- The rows of the tiles that hold a pick stand for these tiles of an array; nothing is said of other tiles.
pub record PickedRowsStandFor (file : List ℕ) (h : Header) (sieve : Sieve) (a : NumberArray) : Type 0 where
  pub lengths : a.lengths ≡ lengths_of (plan_in file h).shape
  pub whole : IsArray a
  pub tiles : (t : ℕ) → Contains (picked_tiles_of (plan_in file h) sieve) t → RowStandsFor file h t (tile a (lengths_of (plan_in file h).tile) t)

-- the numbers of a packed image at the picks of a sieve
pub record AreCutFrom (file : List ℕ) (h : Header) (sieve : Sieve) (numbers : List ℤ) : Type 0 where
  pub array : NumberArray
  pub rows : PickedRowsStandFor file h sieve array
  pub picked : numbers ≡ picked_numbers array sieve

-- a range of a file: where it starts, and how many bytes it has
abbrev pub header_range : List ℕ → Reached → ℕ × ℕ
header_range file r = (r.start, header_touched r.hdu r.start file - r.start)

-- what the reading of a row touches: its descriptors, and if no check refuses it the bytes of its record that are read
abbrev pub ranges_of_row : List ℕ → ImageRow → List (ℕ × ℕ)
ranges_of_row file r = tile_ranges file r.header.hdu (image_table file r.header) r.row (tile_of (plan_in file r.header) r.row)

-- the rows and records of the tiles that hold a pick, if no header is refused
abbrev pub rows_touched : Option Fault → Job → List ℕ → List (ℕ × ℕ)
rows_touched (Some fault) job file = []
rows_touched None job file = flat_map (ranges_of_row file) (rows_for job file (headers_for job file))

-- the ranges of the file that a cut of the wanted HDU, or of the first packed one, may read: the headers of the HDUs that it comes
-- to, and after them the rows and records of the tiles that hold a pick
unfoldable pub touched : Option ℕ → Sieve → List ℕ → List (ℕ × ℕ)
touched wanted sieve file =
    let job = Cut wanted sieve in
    map (header_range file) (reached_by job file) ++ rows_touched (header_fault job file) job file
