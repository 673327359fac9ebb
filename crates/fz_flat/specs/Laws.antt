-- What the definitions of this crate promise of a file, of whose bytes only some are there.
use Rattle.std.specs.Prelude.{ℕ, ◌≡◌, ◌⊎◌, ◌==◌, ◌≤◌, List, [], ◌∷◌, ◌++◌, length, take, drop, Result, Ok, Err, ⊤}
use Rattle.fz_base.specs.declared.fault.Fault.{Fault}
use Rattle.fz_block.specs.Walk.{hdu_of}
use Rattle.fz_block.specs.declared.header.Header.{Header}
use Rattle.fz_table.specs.Reads.{row_ranges, tile_ranges}
use Rattle.fz_table.specs.Records.{record_at, record_bytes}
use Rattle.fz_table.specs.Rows.{IsTable, row_start}
use Rattle.fz_table.specs.declared.record.Record.{Record}
use Rattle.fz_head.specs.Packable.{is_packed}
use Rattle.fz_checks.specs.JobChecks.{IsImageOf, image_to_amend}
use Rattle.fz_checks.specs.declared.job_checks.PackedImage.{PackedImage}
use Rattle.fz_flat.specs.Boxes.{HasRecord, HasRow, SaysRecord, bytes_of, said_at}
use Rattle.fz_flat.specs.Hdus.{flat_hdu}
use Rattle.fz_flat.specs.Lawful.{IsPackedImage}
use Rattle.fz_flat.specs.Rows.{row_says}
use Rattle.fz_flat.specs.Tiles.{tile_of}
use Rattle.fz_flat.specs.declared.fronts.Unread.{Unread}
use Rattle.fz_flat.specs.declared.fronts.Unread.TheVariants.{NoPlace, GoesOn, Refused}
use Rattle.fz_flat.specs.declared.hdu.FzHdu.{FzHdu}
use Rattle.fz_flat.specs.declared.place.FzAt.{FzAt}

-- an image that a header says, with its table, is a packed one by its values
abbrev pub PackedLaw : Type 0
PackedLaw = (header : List ℕ) (h : Header) (image : PackedImage) → IsImageOf header h image → IsTable image.table → IsPackedImage image

-- bytes of the file from a place on
abbrev pub AreFrom : List ℕ → ℕ → List ℕ → Type 0
AreFrom file at bytes = bytes ≡ take (length bytes) (drop at file)

-- the bytes of a row say what the row says in the file
abbrev pub RowLaw : Type 0
RowLaw =
    (file row : List ℕ) (hdu t : ℕ) (image : PackedImage) → IsTable image.table → AreFrom file (row_start image.table t) row
    → image.table.row_bytes ≤ length row → row_says hdu image row t ≡ record_at file hdu image.table t (tile_of image.plan t)

-- a row that was read says what it says in the file
abbrev pub SaidLaw : Type 0
SaidLaw =
    (file rows : List ℕ) (from t : ℕ) (image : PackedImage) → IsTable image.table → AreFrom file from rows → HasRow image from rows t
    → said_at image from rows t ≡ record_at file 0 image.table t (tile_of image.plan t)

-- a record that it says is the one that the row says in the file, whatever the number of the HDU
abbrev pub FoundLaw : Type 0
FoundLaw =
    (file rows : List ℕ) (from hdu t : ℕ) (image : PackedImage) (found : Record) → IsTable image.table → AreFrom file from rows
    → SaysRecord image from rows t found → record_at file hdu image.table t (tile_of image.plan t) ≡ Ok found

-- so what the reading of the tile touches is its row's descriptors and what is read of this record
abbrev pub RangesLaw : Type 0
RangesLaw =
    (file rows : List ℕ) (from hdu t : ℕ) (image : PackedImage) (found : Record) → IsTable image.table → AreFrom file from rows
    → SaysRecord image from rows t found
    → tile_ranges file hdu image.table t (tile_of image.plan t) ≡ row_ranges image.table t ++ (found.start, found.read) ∷ []

-- and the bytes of a record are those of the file
abbrev pub BytesLaw : Type 0
BytesLaw = (file codes : List ℕ) (at : ℕ) (found : Record) → AreFrom file at codes → HasRecord at codes found → bytes_of at codes found ≡ record_bytes file found

-- these bytes are the front of an HDU of the file
pub record IsFrontOf (file : List ℕ) (at : FzAt) (front : List ℕ) : Type 0 where
  pub len : at.length ≡ length file
  pub from : AreFrom file at.start front

-- what is said of the blocks of a header is what is found in the file; nothing is said if the header goes on
abbrev pub SaysBlocks : Result ℕ Unread → Result ℕ Fault → Type 0
SaysBlocks (Ok blocks) found = found ≡ Ok blocks
SaysBlocks (Err NoPlace) found = ⊤
SaysBlocks (Err GoesOn) found = ⊤
SaysBlocks (Err (Refused x)) found = found ≡ Err x

-- what is said of an HDU is what its header in the file says, or why that is refused
abbrev pub SaysHdu : List ℕ → Result FzHdu Unread → Result Header Fault → Type 0
SaysHdu file (Ok facts) found = (h : Header) × (found ≡ Ok h) × (facts ≡ flat_hdu h (is_packed (hdu_of file h).header h))
SaysHdu file (Err NoPlace) found = ⊤
SaysHdu file (Err GoesOn) found = ⊤
SaysHdu file (Err (Refused x)) found = found ≡ Err x

-- the checks of the header, and then those of its packed image, give this
abbrev pub IsImageIn : List ℕ → FzAt → Result Header Fault → Result PackedImage Fault → Type 0
IsImageIn file at found answer = (h : Header) × (found ≡ Ok h) × (image_to_amend h (hdu_of file h).header (at.after_empty == 1) ≡ answer)

-- what is said of a packed image is what its header in the file says, or why that is refused
abbrev pub SaysImage : List ℕ → FzAt → Result PackedImage Unread → Result Header Fault → Type 0
SaysImage file at (Ok image) found = IsImageIn file at found (Ok image)
SaysImage file at (Err NoPlace) found = ⊤
SaysImage file at (Err GoesOn) found = ⊤
SaysImage file at (Err (Refused x)) found = (found ≡ Err x) ⊎ IsImageIn file at found (Err x)
