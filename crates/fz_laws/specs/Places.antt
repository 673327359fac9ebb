-- Where the place that a first fault names lies in the file: bytes, cards and rows (FITS 4.0, sections 3.1, 3.3.1 and 7.3).
use Rattle.std.specs.Prelude.{ℕ, ◌≡◌, ◌⊎◌, ◌+◌, ◌*◌, ◌<◌, ◌≤◌, true, Contains, List, [], ◌∷◌, ◌++◌, length, take, drop, Some, Ok, ⊤}
use Rattle.fz_base.specs.declared.fault.Fault.{Fault}
use Rattle.fz_base.specs.declared.fault.Place.TheVariants.{Byte, Card, Row as AtRow}
use Rattle.fz_base.specs.declared.kind.Kind.{Kind}
use Rattle.fz_base.specs.declared.kind.Kind.TheVariants.{BadCard, BadTable, Limit, NotFits, NotPacked, Truncated}
use Rattle.fz_block.specs.Cards.{end_of}
use Rattle.fz_block.specs.Checks.{header_blocks_of}
use Rattle.fz_block.specs.declared.header.Header.{Header}
use Rattle.fz_table.specs.Rows.{row_start}
use Rattle.fz_files.specs.declared.job.Job.{Job}
use Rattle.fz_files.specs.declared.job.Job.TheVariants.{Pack, Unpack, Cut, Verify, List as ListHdus, Drill, Retile}
use Rattle.fz_head.specs.declared.options.PackOptions.{PackOptions}
use Rattle.fz_files.specs.FirstFault.{IsFirstFault}
use Rattle.fz_files.specs.PlainFault.{too_long}
use Rattle.fz_files.specs.RestoredFile.{restored}
use Rattle.fz_files.specs.Restored.{image_table, is_image}
use Rattle.fz_files.specs.Walks.{Reached, headers_for, reached_by}

-- A byte of the file, or the end of the file: that is named if the file is cut short, always, or if the HDU that a part is cut
-- from is not in it.
pub record IsByteOf (file : List ℕ) (kind : Kind) (p : ℕ) : Type 0 where
  pub within : p ≤ length file
  pub past : p ≡ length file → (kind ≡ Truncated) ⊎ (kind ≡ NotPacked)
  pub cut_short : kind ≡ Truncated → p ≡ length file

-- for these kinds END itself may be named: a card is missing, or the header of the table would be too long
abbrev pub IsOfEnd : Kind → Type 0
IsOfEnd kind = (kind ≡ BadCard) ⊎ ((kind ≡ BadTable) ⊎ (kind ≡ Limit))

-- Card i of the header of HDU k, which begins at this byte: a card before END, or END.
pub record IsCardOf (file : List ℕ) (kind : Kind) (k start i : ℕ) : Type 0 where
  pub blocks : ℕ
  pub found : header_blocks_of k start file ≡ Ok blocks
  pub last : ℕ
  pub ends : end_of (take (2880 * blocks) (drop start file)) ≡ Some last
  pub card_is : i ≤ last
  pub past : i ≡ last → IsOfEnd kind

-- The card is in the file, and in the header of the last HDU that the job reaches; or it is card 0 of HDU 0, which does not begin
-- with SIMPLE = T and may have no END.
pub record CardLies (job : Job) (file : List ℕ) (x : Fault) (i : ℕ) : Type 0 where
  pub before : List Reached
  pub last : Reached
  pub ends : reached_by job file ≡ before ++ last ∷ []
  pub hdu : x.hdu ≡ last.hdu
  pub within : last.start + 80 * (i + 1) ≤ length file
  pub header : IsCardOf file x.kind last.hdu last.start i ⊎ ((x.kind ≡ NotFits) × (last.hdu ≡ 0) × (i ≡ 0))

-- The row is one of the table of a packed image that the job meets, and in the file.
pub record RowLies (job : Job) (file : List ℕ) (x : Fault) (row : ℕ) : Type 0 where
  pub header : Header
  pub met : Contains (headers_for job file) header
  pub hdu : x.hdu ≡ header.hdu
  pub packed : is_image file header ≡ true
  pub row_is : row < (image_table file header).rows
  pub within : row_start (image_table file header) (row + 1) ≤ length file

-- The job looks at one file. `retile` looks at two: at the packed file for `unpack`, and for `pack` at the file that it stands for.
abbrev pub LooksAtOneFile : Job → Type 0
LooksAtOneFile (Pack o) = ⊤
LooksAtOneFile Unpack = ⊤
LooksAtOneFile (Cut wanted sieve) = ⊤
LooksAtOneFile Verify = ⊤
LooksAtOneFile ListHdus = ⊤
LooksAtOneFile (Drill rows) = ⊤
LooksAtOneFile (Retile o) = ⊥

-- a first fault at a byte
abbrev pub BytesLie : Type 0
BytesLie = (job : Job) (file : List ℕ) (x : Fault) (p : ℕ) → LooksAtOneFile job → IsFirstFault job file (Some x) → x.at ≡ Byte p → IsByteOf file x.kind p

-- at a card
abbrev pub CardsLie : Type 0
CardsLie = (job : Job) (file : List ℕ) (x : Fault) (i : ℕ) → LooksAtOneFile job → IsFirstFault job file (Some x) → x.at ≡ Card i → CardLies job file x i

-- at a row
abbrev pub RowsLie : Type 0
RowsLie = (job : Job) (file : List ℕ) (x : Fault) (row : ℕ) → LooksAtOneFile job → IsFirstFault job file (Some x) → x.at ≡ AtRow row → RowLies job file x row

-- a first fault of `retile` is that of `unpack` in the packed file, or that of `pack` in the file that it stands for, if this is not too long
abbrev pub RetileFaultsAreOfBoth : Type 0
RetileFaultsAreOfBoth =
    (o : PackOptions) (file : List ℕ) (x : Fault) → IsFirstFault (Retile o) file (Some x) →
    IsFirstFault Unpack file (Some x) ⊎ ((x ≡ too_long file) ⊎ IsFirstFault (Pack o) (restored file) (Some x))
