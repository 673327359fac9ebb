-- What a patch leaves of FILE, whatever PATCH holds or shows, also if it gives other bytes at each reading (FITS 4.0, sections 4.4.2.7, 7.3.1
-- and 7.3.5).
use Rattle.std.specs.Prelude.{ℕ, ◌≡◌, ◌⊎◌, ◌*◌, ◌+◌, ◌/◌, ◌<◌, ◌≤◌, List, [], ◌∷◌, ◌++◌, length, map, All, slice_index, unwrap_or, Option, Some, None, IfSome, Ok}
use Rattle.std.specs.Option.{option_map}
use Rattle.fz_base.specs.Counts.{Amend}
use Rattle.fz_base.specs.Ranges.{LiesIn}
use Rattle.fz_block.specs.Hdus.{pcount_index}
use Rattle.fz_block.specs.declared.header.Header.{Header}
use Rattle.fz_files.specs.Packed.{pixel_bits}
use Rattle.fz_files.specs.Restored.{header_in, image_table, plan_in}
use Rattle.fz_grid.specs.Arrays.{product}
use Rattle.fz_grid.specs.Sieve.{IsSieveOf}
use Rattle.fz_laws.specs.Amends.{IsOutside}
use Rattle.fz_laws.specs.Given.{PatchJob, box_sieve, given_by}
use Rattle.fz_laws.specs.Grown.{form_index}
use Rattle.fz_laws.specs.NewNumbers.{box_tiles}
use Rattle.fz_laws.specs.Writes.{heap_end, told_sum}
use Rattle.fz_sum.specs.Cards.{checksum_name, datasum_name}
use Rattle.fz_table.specs.Rows.{row_start}
use Rattle.fz_table.specs.declared.table.Table.{Table}
use Rattle.fz_target.specs.Reads.{found_alone}
use Rattle.fz_target.specs.Targets.{box_at}

-- ---- what has a place in a patch

-- a card of a header, as a range of the file
abbrev pub card_range : Header → ℕ → ℕ × ℕ
card_range h i = (h.start + 80 * i, 80)

abbrev pub told_range : Header → Option ℕ → List (ℕ × ℕ)
told_range h None = []
told_range h (Some i) = card_range h i ∷ []

-- the cards of a header that a patch may write: PCOUNT and both forms, and those of the checksums that have a text
abbrev pub form_ranges : List ℕ → Header → List (ℕ × ℕ)
form_ranges header h = card_range h (pcount_index header) ∷ (card_range h (form_index header 1) ∷ (card_range h (form_index header 2) ∷ []))

abbrev pub sum_ranges : List ℕ → Header → List (ℕ × ℕ)
sum_ranges header h = told_range h (told_sum datasum_name header) ++ told_range h (told_sum checksum_name header)

-- the rows of these tiles
abbrev pub row_ranges : Table → List ℕ → List (ℕ × ℕ)
row_ranges t tiles = map (λ tile. (row_start t tile, t.row_bytes)) tiles

-- A byte that has none, in a file whose HDU has this header and this table: it is before the heap's end, and in none of these cards, nor in a
-- row of these tiles.
pub record IsKept (header : List ℕ) (h : Header) (t : Table) (tiles : List ℕ) (i : ℕ) : Type 0 where
  pub before : i < heap_end t
  pub forms : ¬ LiesIn (form_ranges header h) i
  pub sums : ¬ LiesIn (sum_ranges header h) i
  pub rows : ¬ LiesIn (row_ranges t tiles) i

-- ---- what is left

-- Bytes of a file that are kept are as they were, and no byte was cut off; nor does any write that was made have a place for one of them, so
-- that they stay too if some of the writes are lost.
pub record KeepsBytes (Kept : ℕ → Type 0) (file : List ℕ) (held' : Option (List ℕ)) (writes writes' : Option (List Amend)) : Type 0 where
  pub made : List Amend
  pub logged : writes' ≡ option_map (λ before. before ++ made) writes
  pub beside : (i : ℕ) → Kept i → All (IsOutside i) made
  pub new : List ℕ
  pub now : held' ≡ Some new
  pub long : length file ≤ length new
  pub kept : (i : ℕ) → i < length file → Kept i → slice_index new i ≡ slice_index file i

-- FILE was written, in the image that is found by FILE alone, for a box at the corner that lies in the image, and that PATCH has the bytes for:
-- if PATCH shows them, with the lengths of its image. Only what has a place in a patch of that box was changed.
pub record ChangesOnly
    (job : PatchJob) (attached : Option ℕ) (given held' : Option (List ℕ)) (writes writes' : Option (List Amend)) (file : List ℕ) : Type 0 where
  pub header : Header
  pub found : found_alone file job ≡ Ok header
  pub lengths : List ℕ
  pub inside : IsSieveOf (plan_in file header).shape (box_sieve (box_at job.corner lengths))
  pub within : (n : ℕ) × (attached ≡ Some n) × (pixel_bits (plan_in file header) / 8 * product lengths ≤ n)
  pub shown : IfSome given (λ patch. lengths ≡ (given_by patch job).array.lengths)
  pub keeps :
      KeepsBytes
      (IsKept (header_in file header) header (image_table file header) (box_tiles (plan_in file header) (box_at job.corner lengths)))
      file held' writes writes'

-- FILE is as it was, and no write was made; or only that was changed
abbrev pub LeavesRest : PatchJob → Option ℕ → Option (List ℕ) → Option (List ℕ) → Option (List Amend) → Option (List Amend) → List ℕ → Type 0
LeavesRest job attached given held' writes writes' file =
    ((held' ≡ Some file) × (writes' ≡ writes)) ⊎ ChangesOnly job attached given held' writes writes' file
