-- What is promised of patches, by only the definitions.
use Rattle.std.specs.Prelude.{ℕ, ◌≡◌, ◌↔◌, ◌+◌, ◌*◌, ◌^◌, ◌<◌, ◌≤◌, max, ℤ, pos, List, [], ◌∷◌, length, take, drop, All, Contains, slice_index}
use Rattle.std.specs.Prelude.{slice_index_or, Bool, Option, None, Ok, ⊤, if◌then◌else◌}
use Rattle.fz_base.specs.Counts.{Amend}
use Rattle.fz_base.specs.Takings.{first_past}
use Rattle.fz_base.specs.declared.fault.Fault.{Fault}
use Rattle.fz_bits.specs.Numbers.{IsNumber}
use Rattle.fz_block.specs.Facts.{IsHeaderOf, facts_of}
use Rattle.fz_block.specs.declared.header.Header.{Header}
use Rattle.fz_sum.specs.Cards.{with_card}
use Rattle.fz_grid.specs.Arrays.{IsArray, NumberArray}
use Rattle.fz_grid.specs.Division.{AreTileLengths}
use Rattle.fz_grid.specs.Grid.{tile}
use Rattle.fz_grid.specs.Region.{lengths_of}
use Rattle.fz_grid.specs.Cutout.{Sifts, numbers_at, picks_in_cutout, picks_in_tile}
use Rattle.fz_table.specs.Records.{record_at, record_bytes}
use Rattle.fz_table.specs.Rows.{row_at, row_start}
use Rattle.fz_table.specs.declared.record.Record.{Record}
use Rattle.fz_tile.specs.Plain.{AreBytes}
use Rattle.fz_tile.specs.TileCode.{TileCode, tile_code}
use Rattle.fz_head.specs.declared.plan.Plan.{Plan}
use Rattle.fz_files.specs.Packed.{pixel_bits, row_of, tiles_in}
use Rattle.fz_files.specs.Restored.{RowStandsFor, header_in, image_table, pixels_of, plan_in, tile_of}
use Rattle.fz_files.specs.Walks.{header_fault}
use Rattle.fz_files.specs.declared.job.Job.TheVariants.{Unpack}
use Rattle.fz_laws.specs.Amends.{applied}
use Rattle.fz_laws.specs.PatchBuffers.{patch_bound, patch_takings}
use Rattle.fz_laws.specs.PatchChecks.{patch_target}
use Rattle.fz_laws.specs.FirstPatchFault.{ArePatchSteps, BoxHasNumbers, IsFirstPatchFault}
use Rattle.fz_laws.specs.PatchForm.{is_wide_table}
use Rattle.fz_laws.specs.Given.{Given, PatchJob, box_sieve, given_by}
use Rattle.fz_laws.specs.PatchHeaders.{IsAmended, SaysTheSame}
use Rattle.fz_laws.specs.NewNumbers.{box_tiles, new_numbers, replaced}
use Rattle.fz_laws.specs.Patched.{HasNewTiles, IsPatched}
use Rattle.fz_laws.specs.Safe.{IsSafeAfter, IsSafeAmid, IsStep}
use Rattle.fz_laws.specs.Writes.{Steps, all_writes, card_write, header_now, table_plan}

-- ---- headers

-- a header in which a patch changed cards is refused by no check that let it pass, and says the same image, whose heap may be longer
abbrev pub AmendedHeadersSayTheSame : Type 0
AmendedHeadersSayTheSame =
    (k start : ℕ) (old new : List ℕ) → 0 < k → IsHeaderOf old (facts_of k start old) → IsAmended old new → SaysTheSame k start old new

-- a card that is written in place is in the header of the file, whatever its fill, and all other cards stay
abbrev pub CardsStandInPlace : Type 0
CardsStandInPlace =
    (file : List ℕ) (h : Header) (i : ℕ) (card : List ℕ) → length card ≡ 80 → 80 * (i + 1) ≤ 2880 * h.blocks → h.start + 2880 * h.blocks ≤ length file →
    header_in (applied (card_write h i card ∷ []) file) h ≡ with_card i card (header_in file h)

-- ---- numbers

-- the tiles of an array with its box replaced are the tiles of the array with their new numbers
abbrev pub TilesAreReplaced : Type 0
TilesAreReplaced =
    (p : Plan) (g : Given) (a : NumberArray) (t : ℕ) → AreTileLengths a.lengths (lengths_of p.tile) → IsArray a → a.lengths ≡ lengths_of p.shape →
    t < tiles_in p →
    tile (replaced g a) (lengths_of p.tile) t ≡ new_numbers p g t (tile a (lengths_of p.tile) t)

-- a tile without a pixel in the box keeps its numbers
abbrev pub OthersKeepNumbers : Type 0
OthersKeepNumbers =
    (p : Plan) (g : Given) (t : ℕ) (xs : List ℤ) → AreTileLengths (lengths_of p.shape) (lengths_of p.tile) → Sifts (lengths_of p.shape) (box_sieve g) →
    t < tiles_in p → length xs ≡ pixels_of p t → ¬ Contains (box_tiles p g) t → new_numbers p g t xs ≡ xs

-- the given image has a pixel along each axis and as many numbers as its lengths say, each in the range of the image, and lies within that
-- from the corner on
pub record IsGivenFor (p : Plan) (g : Given) : Type 0 where
  pub whole : IsArray g.array
  pub axes : length g.array.lengths ≡ length g.corner
  pub positive : (i : ℕ) → i < length g.array.lengths → 1 ≤ slice_index g.array.lengths i
  pub sifts : Sifts (lengths_of p.shape) (box_sieve g)
  pub numbers : All (IsNumber (pixel_bits p)) g.array.numbers

-- so is the image of a file of bytes that passes the checks
abbrev pub TargetsAreGiven : Type 0
TargetsAreGiven =
    (file patch : List ℕ) (job : PatchJob) (h : Header) → AreBytes patch → patch_target file patch job ≡ Ok h →
    IsGivenFor (plan_in file h) (given_by patch job)

-- line by line: the numbers of a tile at its pixels in the box become those of the given image at theirs
abbrev pub NewNumbersAreGiven : Type 0
NewNumbersAreGiven =
    (p : Plan) (g : Given) (t : ℕ) (xs : List ℤ) → AreTileLengths (lengths_of p.shape) (lengths_of p.tile) → IsGivenFor p g → t < tiles_in p →
    length xs ≡ pixels_of p t →
    numbers_at (new_numbers p g t xs) (picks_in_tile (lengths_of p.shape) (lengths_of p.tile) (box_sieve g) t)
    ≡ numbers_at g.array.numbers (picks_in_cutout (lengths_of p.shape) (lengths_of p.tile) (box_sieve g) t)

-- and at all other places they stay
abbrev pub NewNumbersStay : Type 0
NewNumbersStay =
    (p : Plan) (g : Given) (t place : ℕ) (xs : List ℤ) → AreTileLengths (lengths_of p.shape) (lengths_of p.tile) → IsGivenFor p g → t < tiles_in p →
    length xs ≡ pixels_of p t →
    place < length xs → ¬ Contains (picks_in_tile (lengths_of p.shape) (lengths_of p.tile) (box_sieve g) t) place →
    slice_index_or (new_numbers p g t xs) place (pos 0) ≡ slice_index_or xs place (pos 0)

-- ---- rows

-- Row t says in the second file what it says in the first, and its record is the same bytes; of the header only cards were changed as a patch
-- changes them, so that the heap goes at least as far.
pub record IsKeptRow (file new : List ℕ) (h : Header) (t : ℕ) : Type 0 where
  pub header : IsAmended (header_in file h) (header_in new h)
  pub row : row_at new (image_table file h) t ≡ row_at file (image_table file h) t
  pub record_is :
      (found : Record) → record_at file h.hdu (image_table file h) t (tile_of (plan_in file h) t) ≡ Ok found →
      record_bytes new found ≡ record_bytes file found

abbrev pub KeptRowsStand : Type 0
KeptRowsStand =
    (file patch new : List ℕ) (job : PatchJob) (h : Header) (t : ℕ) (xs : List ℤ) → patch_target file patch job ≡ Ok h →
    IsKeptRow file new h t → RowStandsFor file h t xs → RowStandsFor new (header_now new h) t xs

-- the code of the new numbers of a tile that had these
abbrev pub new_code : Plan → Given → ℕ → List ℤ → TileCode
new_code p g t xs = tile_code p.codec (pixel_bits p) (new_numbers p g t xs)

-- Row t of the second file describes, at this offset of the heap, the code of the new numbers that the tile has, and the code is there.
pub record IsNewRow (file new : List ℕ) (h : Header) (g : Given) (t offset : ℕ) (xs : List ℤ) : Type 0 where
  pub header : IsAmended (header_in file h) (header_in new h)
  pub row :
      take (image_table file h).row_bytes (drop (row_start (image_table file h) t) new) ≡ row_of (table_plan file h) offset (new_code (plan_in file h) g t xs)
  pub code :
      take (length (new_code (plan_in file h) g t xs).bytes) (drop ((image_table file h).heap_at + offset) new) ≡ (new_code (plan_in file h) g t xs).bytes
  pub within : offset + length (new_code (plan_in file h) g t xs).bytes ≤ (image_table new (header_now new h)).heap_len
  pub fits : offset + length (new_code (plan_in file h) g t xs).bytes < (if is_wide_table (header_in file h) then 2 ^ 63 else 2 ^ 31)

abbrev pub NewRowsStand : Type 0
NewRowsStand =
    (file patch new : List ℕ) (job : PatchJob) (h : Header) (t offset : ℕ) (xs : List ℤ) → AreBytes patch → patch_target file patch job ≡ Ok h →
    t < tiles_in (plan_in file h) → RowStandsFor file h t xs → IsNewRow file new h (given_by patch job) t offset xs →
    RowStandsFor new (header_now new h) t (new_numbers (plan_in file h) (given_by patch job) t xs)

-- ---- the writes

-- a patch has one list of writes at most, one first fault at most, and then one of both
abbrev pub HasOnePatch : Type 0
HasOnePatch =
    (file patch : List ℕ) (job : PatchJob) (h k : Header) (steps other : Steps) → ArePatchSteps file patch job h steps → ArePatchSteps file patch job k other →
    (h ≡ k) × (steps ≡ other)

abbrev pub HasOnePatchFault : Type 0
HasOnePatchFault =
    (file patch : List ℕ) (job : PatchJob) (found other : Option Fault) → IsFirstPatchFault file patch job found →
    IsFirstPatchFault file patch job other → found ≡ other

abbrev pub HasWritesOrFault : Type 0
HasWritesOrFault =
    (file patch : List ℕ) (job : PatchJob) → IsFirstPatchFault file patch job None ↔ ((h : Header) × (steps : Steps) × ArePatchSteps file patch job h steps)

-- two files of bytes, and the writes of a patch of the first by the second
pub record ArePatching (file patch : List ℕ) (job : PatchJob) (h : Header) (steps : Steps) : Type 0 where
  pub file_bytes : AreBytes file
  pub patch_bytes : AreBytes patch
  pub steps_are : ArePatchSteps file patch job h steps

-- every write begins within the file or where the one before it ends, is not empty, and ends at byte 2^62 at most
abbrev pub AreInOrder : ℕ → List Amend → Type 0
AreInOrder len [] = ⊤
AreInOrder len (w ∷ ws) = (w.at ≤ len) × (0 < length w.bytes) × (w.at + length w.bytes ≤ 2 ^ 62) × AreInOrder (max len (w.at + length w.bytes)) ws

abbrev pub WritesAreInOrder : Type 0
WritesAreInOrder =
    (file patch : List ℕ) (job : PatchJob) (h : Header) (steps : Steps) → ArePatching file patch job h steps →
    AreInOrder (length file) (all_writes steps)

-- after every prefix of the writes the file is safe
abbrev pub EachPrefixIsSafe : Type 0
EachPrefixIsSafe =
    (file patch : List ℕ) (job : PatchJob) (h : Header) (steps : Steps) (n : ℕ) → ArePatching file patch job h steps →
    IsSafeAfter file h (given_by patch job) steps n

-- after all earlier steps and any of the writes of one step the file is safe
abbrev pub AnyOfAStepIsSafe : Type 0
AnyOfAStepIsSafe =
    (file patch : List ℕ) (job : PatchJob) (h : Header) (steps : Steps) (before within : List Amend) (flags : List Bool) →
    ArePatching file patch job h steps → IsStep steps before within →
    IsSafeAmid file h (given_by patch job) steps before within flags

-- after all of them each tile with a pixel in the box has its new numbers, and every other its old ones
abbrev pub AllWritesTile : Type 0
AllWritesTile =
    (file patch : List ℕ) (job : PatchJob) (h : Header) (steps : Steps) → ArePatching file patch job h steps →
    HasNewTiles file (applied (all_writes steps) file) h (given_by patch job)

-- after all of them the file is patched
abbrev pub AllWritesPatch : Type 0
AllWritesPatch =
    (file patch : List ℕ) (job : PatchJob) (h : Header) (steps : Steps) → ArePatching file patch job h steps →
    IsPatched file (applied (all_writes steps) file) h (given_by patch job)

-- ---- after a stop

-- From the write of PCOUNT on no header check of `unpack` refuses that passed before. The same patch passes the checks of headers again,
-- and the rows of its tiles have numbers, so that it has no fault but that of the room for the new codes.
abbrev pub PatchesAgain : Type 0
PatchesAgain =
    (file patch : List ℕ) (job : PatchJob) (h : Header) (steps : Steps) (n : ℕ) → ArePatching file patch job h steps → length steps.heap < n →
    (header_fault Unpack file ≡ None → header_fault Unpack (applied (take n (all_writes steps)) file) ≡ None)
    × (patch_target (applied (take n (all_writes steps)) file) patch job ≡ Ok (header_now (applied (take n (all_writes steps)) file) h))
    × ((olds : List (List ℤ))
    × BoxHasNumbers (applied (take n (all_writes steps)) file) (header_now (applied (take n (all_writes steps)) file) h) (given_by patch job) olds)

-- Before it, a file that has grown is one that can be patched again if it is cut back to its old length: the same patch passes the checks of
-- headers, and the rows of its tiles have numbers.
abbrev pub PatchesAgainCutBack : Type 0
PatchesAgainCutBack =
    (file patch : List ℕ) (job : PatchJob) (h : Header) (steps : Steps) (n : ℕ) → ArePatching file patch job h steps → n ≤ length steps.heap →
    (patch_target (take (length file) (applied (take n (all_writes steps)) file)) patch job ≡ Ok h)
    × ((olds : List (List ℤ)) × BoxHasNumbers (take (length file) (applied (take n (all_writes steps)) file)) h (given_by patch job) olds)

-- ---- buffers

-- no taking of a patch passes its bound
abbrev pub PatchIsBounded : Type 0
PatchIsBounded = (file patch : List ℕ) (job : PatchJob) → first_past (patch_bound file patch job) (patch_takings file patch job) ≡ None
