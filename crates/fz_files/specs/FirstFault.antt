-- The first fault of a file for a job: first that of the headers, HDU by HDU, and then that of the rows, from row 0 of the first packed
-- HDU up (FITS 4.0, sections 7.3.5 and 10.1.3).
use Rattle.std.specs.Prelude.{ℕ, ◌≡◌, ◌⊎◌, ℤ, List, [], ◌∷◌, map, Option, Some, None, Ok, Err, ⊤}
use Rattle.std.specs.List.{filter, flat_map, range_with_len}
use Rattle.fz_base.specs.Refusal.{refusal}
use Rattle.fz_base.specs.declared.fault.Fault.{Fault}
use Rattle.fz_base.specs.declared.fault.Place.TheVariants.{Row as AtRow}
use Rattle.fz_block.specs.declared.header.Header.{Header}
use Rattle.fz_grid.specs.Region.{lengths_of}
use Rattle.fz_grid.specs.Sieve.{picked_tiles, sieve_lo, sieve_hi, sieve_step}
use Rattle.fz_grid.specs.declared.sieve.Sieve.{Sieve}
use Rattle.fz_table.specs.Records.{record_at, record_bytes}
use Rattle.fz_table.specs.declared.record.Record.{Record}
use Rattle.fz_tile.specs.Refusals.{IsFault}
use Rattle.fz_tile.specs.declared.fault.TileFault.{TileFault}
use Rattle.fz_checks.specs.TileKinds.{kind_of_tile}
use Rattle.fz_head.specs.declared.plan.Plan.{Plan}
use Rattle.fz_files.specs.declared.job.Job.{Job}
use Rattle.fz_files.specs.declared.job.Job.TheVariants.{Pack, Unpack, Cut, Verify, List as ListHdus, Drill, Retile}
use Rattle.fz_files.specs.Packed.{pixel_bits, tiles_in}
use Rattle.fz_files.specs.PlainFault.{plain_fault}
use Rattle.fz_files.specs.Restored.{RowStandsFor, image_table, is_image, pixels_of, place_in, plan_in, tile_of}
pub use Rattle.fz_files.specs.RowPixels.{ImageRow, image_row}
use Rattle.fz_files.specs.Walks.{header_fault, headers_for, last_of}

-- the record of a row stands for no pixels, for this reason
pub record RecordIsFaulty (file : List ℕ) (r : ImageRow) (why : TileFault) : Type 0 where
  pub found : Record
  pub chosen : record_at file r.header.hdu (image_table file r.header) r.row (tile_of (plan_in file r.header) r.row) ≡ Ok found
  pub fault :
      IsFault (plan_in file r.header).codec (pixel_bits (plan_in file r.header)) (place_in found.column) found.total (record_bytes file found)
      (pixels_of (plan_in file r.header) r.row) why

-- a row is refused: by the checks up to the length of its record, or for what the record is
abbrev pub IsRowFault : List ℕ → ImageRow → Fault → Type 0
IsRowFault file r fault =
    (record_at file r.header.hdu (image_table file r.header) r.row (tile_of (plan_in file r.header) r.row) ≡ Err fault)
    ⊎ ((why : TileFault) × RecordIsFaulty file r why × (fault ≡ refusal r.header.hdu (AtRow r.row) (kind_of_tile why)))

-- a row stands for some pixels
abbrev pub IsRowSound : List ℕ → ImageRow → Type 0
IsRowSound file r = (xs : List ℤ) × RowStandsFor file r.header r.row xs

-- the first of some rows that is refused, or none if all stand for pixels
abbrev pub IsFirstRowFault : List ℕ → List ImageRow → Option Fault → Type 0
IsFirstRowFault file [] None = ⊤
IsFirstRowFault file [] (Some fault) = ⊥
IsFirstRowFault file (r ∷ rs) None = IsRowSound file r × IsFirstRowFault file rs None
IsFirstRowFault file (r ∷ rs) (Some fault) = IsRowFault file r fault ⊎ (IsRowSound file r × IsFirstRowFault file rs (Some fault))

-- the rows of a packed image, a row for each tile
abbrev pub rows_of : List ℕ → Header → List ImageRow
rows_of file h = map (image_row h) (range_with_len 0 (tiles_in (plan_in file h)))

-- the rows of all packed images
abbrev pub all_rows : List ℕ → List Header → List ImageRow
all_rows file hs = flat_map (rows_of file) (filter (is_image file) hs)

-- the numbers of the tiles of a packed image that hold a pick, ascending
abbrev pub picked_tiles_of : Plan → Sieve → List ℕ
picked_tiles_of p sieve = picked_tiles (lengths_of p.shape) (lengths_of p.tile) (sieve_lo sieve) (sieve_hi sieve) (sieve_step sieve)

-- the rows of its tiles that hold a pick
abbrev pub picked_rows : List ℕ → Sieve → Header → List ImageRow
picked_rows file sieve h = map (image_row h) (picked_tiles_of (plan_in file h) sieve)

-- the rows that a job looks at, in their order, in a file with these headers
abbrev pub rows_for : Job → List ℕ → List Header → List ImageRow
rows_for (Pack o) file hs = []
rows_for Unpack file hs = all_rows file hs
rows_for (Cut wanted sieve) file hs = flat_map (picked_rows file sieve) (last_of hs)
rows_for Verify file hs = all_rows file hs
rows_for ListHdus file hs = []
rows_for (Drill rows) file hs = []
rows_for (Retile o) file hs = all_rows file hs

-- the first of some rows that is refused, or, if all stand for pixels, the fault that is looked for after them, or none
abbrev pub IsFaultThen : List ℕ → List ImageRow → Option Fault → Option Fault → Type 0
IsFaultThen file rows later None = IsFirstRowFault file rows None × (later ≡ None)
IsFaultThen file rows later (Some fault) = IsFirstRowFault file rows (Some fault) ⊎ (IsFirstRowFault file rows None × (later ≡ Some fault))

-- the first fault among the rows that a job looks at, or none; of `retile` that of the file that is packed anew comes after them
abbrev pub IsRowsFault : Job → List ℕ → Option Fault → Type 0
IsRowsFault (Pack o) file fault = IsFirstRowFault file (rows_for (Pack o) file (headers_for (Pack o) file)) fault
IsRowsFault Unpack file fault = IsFirstRowFault file (rows_for Unpack file (headers_for Unpack file)) fault
IsRowsFault (Cut wanted sieve) file fault = IsFirstRowFault file (rows_for (Cut wanted sieve) file (headers_for (Cut wanted sieve) file)) fault
IsRowsFault Verify file fault = IsFirstRowFault file (rows_for Verify file (headers_for Verify file)) fault
IsRowsFault ListHdus file fault = IsFirstRowFault file (rows_for ListHdus file (headers_for ListHdus file)) fault
IsRowsFault (Drill rows) file fault = IsFirstRowFault file (rows_for (Drill rows) file (headers_for (Drill rows) file)) fault
IsRowsFault (Retile o) file fault = IsFaultThen file (rows_for (Retile o) file (headers_for (Retile o) file)) (plain_fault o file) fault

-- the first fault of a file for a job, if the headers have this one or none
abbrev pub IsFaultBehind : Option Fault → Job → List ℕ → Option Fault → Type 0
IsFaultBehind (Some fault) job file found = found ≡ Some fault
IsFaultBehind None job file found = IsRowsFault job file found

-- the first fault of a file for a job, or none
abbrev pub IsFirstFault : Job → List ℕ → Option Fault → Type 0
IsFirstFault job file found = IsFaultBehind (header_fault job file) job file found
