-- A packed file in which `unpack` finds no fault stands for the file that its bytes say.
use Rattle.std.specs.Prelude.{All, slice_index_or}
use Rattle.std.proofs.Common.{◌≡◌, ℕ, zero, suc, ◌+◌, ◌<◌, Bool, true, false, cond, ℤ, List, [], ◌∷◌, map, None, Ok, if◌then◌else◌, refl, sym, subst, ap, arith}
use Rattle.std.specs.List.{AllByRecursion, filter, flat_map, range_with_len}
use Rattle.std.proofs.lemmas.List.Elements.{All-from_recursion}
use Rattle.std.proofs.lemmas.List.FromFn.{get_or-map-range_with_len, length-map-range_with_len}
use Rattle.fz_base.specs.Refusal.{first_refusal}
use Rattle.fz_block.specs.Checks.{walk_of}
use Rattle.fz_block.specs.Hdus.{cards_of, hdu_bytes}
use Rattle.fz_block.specs.Walk.{RefusesNone, hdu_of}
use Rattle.fz_block.specs.declared.header.Header.{Header}
use Rattle.fz_grid.specs.Division.{AreTileLengths}
use Rattle.fz_grid.specs.Region.{lengths_of}
use Rattle.fz_grid.specs.Whole.{AreTiles}
use Rattle.fz_checks.specs.JobChecks.{IsImageOf, image_in, is_after_empty, unpack_hdu_checks}
use Rattle.fz_checks.specs.Judges.{unpack_judge}
use Rattle.fz_head.specs.declared.plan.Plan.{Plan}
use Rattle.fz_files.specs.FirstFault.{IsFaultBehind, IsFirstFault, IsFirstRowFault, IsRowSound, all_rows, image_row, rows_of}
use Rattle.fz_files.specs.Laws.{StandsForOneFile}
use Rattle.fz_files.specs.Packed.{tiles_in}
use Rattle.fz_files.specs.Restored.{HduStandsFor, HdusStandFor, RowStandsFor, RowsStandFor, StandsForAs, header_in, image_bytes, is_image, is_packed_primary, plan_in, standing}
use Rattle.fz_files.specs.StandsFor.{StandsFor}
use Rattle.fz_files.specs.Walks.{found_headers, header_fault, headers_for, job_walk}
use Rattle.fz_files.specs.declared.job.Job.TheVariants.{Unpack}
use Rattle.fz_files.specs.RestoredFile.{image_array, pixels_or_none, restored, restored_hdu, tile_pixels}
use Rattle.fz_laws.specs.RoundTrip.{ImageArraysStand, StandsForExactly, StandsForNoOther, StandsForRestored}
use Rattle.fz_laws.specs.RoundTripTaken.{RestoringLaws}
use Rattle.fz_laws.proofs.FirstFaults.{EachIs, IsReadable, Stands, each_stands, first_fault_is, image_is}
use Rattle.fz_laws.proofs.Known.{first_fault_known, row_known}
use Rattle.fz_laws.proofs.Sources.{answer_none}
use Rattle.fz_laws.proofs.Stood.{joined_lengths, sound_back, sound_front}
use Rattle.fz_laws.proofs.Way.{found_walk, no_header_fault}

-- ---- the tiles of an image

module _ (laws : RestoringLaws) (file : List ℕ) (h : Header) (readable : IsReadable file h) where
  abbrev p : Plan
  p = plan_in file h

  row_stands : (t : ℕ) → IsRowSound file (image_row h t) → RowStandsFor file h t (tile_pixels file h t)
  row_stands t sound = subst (λ xs. RowStandsFor file h t xs) (sym (ap pixels_or_none (row_known laws.known file (image_row h t) sound.0 readable sound.1))) sound.1

  tile_stands : (a n t : ℕ) → IsFirstRowFault file (map (image_row h) (range_with_len a n)) None → t < n → RowStandsFor file h (a + t) (tile_pixels file h (a + t))
  tile_stands a zero t sound less = absurd (omega (arith, less))
  tile_stands a (suc n) zero sound less = let here : a ≡ a + zero = omega arith in subst (λ t. RowStandsFor file h t (tile_pixels file h t)) here (row_stands a sound.0)
  tile_stands a (suc n) (suc t) sound less =
      let at : a + 1 + t ≡ a + suc t = omega arith in
      subst (λ k. RowStandsFor file h k (tile_pixels file h k)) at (tile_stands (a + 1) n t sound.1 (omega (arith, less)))

  abbrev tiles : List (List ℤ)
  tiles = map (tile_pixels file h) (range_with_len 0 (tiles_in p))

  tile_at : (t : ℕ) → t < tiles_in p → slice_index_or tiles t [] ≡ tile_pixels file h t
  tile_at t less = let at : 0 + t ≡ t = omega arith in get_or-map-range_with_len (tile_pixels file h) 0 (tiles_in p) t t [] less at

  array_stands : AreTileLengths (lengths_of p.shape) (lengths_of p.tile) → IsFirstRowFault file (rows_of file h) None → RowsStandFor file h (image_array file h)
  array_stands divided none =
      let stands : (t : ℕ) → t < tiles_in p → RowStandsFor file h t (slice_index_or tiles t []) = λ t less.
      let at : 0 + t ≡ t = omega arith in
      subst (λ xs. RowStandsFor file h t xs) (sym (tile_at t less)) (subst (λ k. RowStandsFor file h k (tile_pixels file h k)) at (tile_stands 0 (tiles_in p) t none less)) in
      let are : AreTiles (lengths_of p.shape) (lengths_of p.tile) tiles = record {
        count = length-map-range_with_len (tile_pixels file h) 0 (tiles_in p);
        pixels = λ t less. (stands t less).count;
      } in
      record {
        lengths = joined_lengths (lengths_of p.shape) (lengths_of p.tile) tiles;
        whole = laws.whole (lengths_of p.shape) (lengths_of p.tile) tiles;
        tiles = λ t less. subst (λ xs. RowStandsFor file h t xs) (sym (laws.tiles (lengths_of p.shape) (lengths_of p.tile) tiles t divided are less)) (stands t less);
      }

-- ---- HDUs, one after another

abbrev IsRestored : List ℕ → Header → Type 0
IsRestored file h = HduStandsFor file h (restored_hdu file h)

each_restored : RestoringLaws → (file : List ℕ) (hs : List Header) → EachIs (Stands file) hs → RefusesNone (unpack_judge file) hs → IsFirstRowFault file (all_rows file hs) None →
    EachIs (IsRestored file) hs
each_restored laws file [] each none sound = tt
each_restored laws file (h ∷ hs) each none sound = by_packed (each_restored laws file hs each.1 none.1) (is_image file h) refl sound
  where
    by_packed : (IsFirstRowFault file (all_rows file hs) None → EachIs (IsRestored file) hs) → (packed : Bool) → is_image file h ≡ packed →
        IsFirstRowFault file (flat_map (rows_of file) (cond packed (h ∷ filter (is_image file) hs) (filter (is_image file) hs))) None → EachIs (IsRestored file) (h ∷ hs)
    by_packed later true is sound =
        let passed : first_refusal (unpack_hdu_checks file h) ≡ None = answer_none false (first_refusal (unpack_hdu_checks file h)) none.0 in
        let image : IsImageOf (header_in file h) h (image_in h (header_in file h)) = laws.faults.unpack h (header_in file h) (is_after_empty file h) each.0.0 is passed in
        let divided : AreTileLengths (lengths_of (plan_in file h).shape) (lengths_of (plan_in file h).tile) = laws.lengths (plan_in file h).shape (plan_in file h).tile image.divided in
        let stands : StandsForAs true file h (image_bytes (plan_in file h) (cards_of (header_in file h)) (image_array file h)) = record {
          array = image_array file h;
          rows = array_stands laws file h (image_is file h each.0.0 each.0.1 image) divided (sound_front file (rows_of file h) (all_rows file hs) sound);
          image = refl;
        } in (
          subst (λ b. StandsForAs b file h (if b then image_bytes (plan_in file h) (cards_of (header_in file h)) (image_array file h) else hdu_bytes (hdu_of file h))) (sym is) stands,
          later (sound_back file (rows_of file h) (all_rows file hs) sound),
        )
    by_packed later false is sound = (
      subst (λ b. StandsForAs b file h (if b then image_bytes (plan_in file h) (cards_of (header_in file h)) (image_array file h) else hdu_bytes (hdu_of file h))) (sym is) refl,
      later sound,
    )

all_restored : (file : List ℕ) (hs : List Header) → EachIs (IsRestored file) hs → HdusStandFor file hs (flat_map (restored_hdu file) hs)
all_restored file [] each = refl
all_restored file (h ∷ hs) each = (restored_hdu file h, flat_map (restored_hdu file) hs, refl, each.0, all_restored file hs each.1)

standing_restored : (file : List ℕ) (hs : List Header) → EachIs (IsRestored file) hs → EachIs (IsRestored file) (standing file hs)
standing_restored file [] each = tt
standing_restored file (h ∷ []) each = each
standing_restored file (h ∷ (k ∷ hs)) each = by_test (is_packed_primary file k)
  where
    by_test : (packed : Bool) → EachIs (IsRestored file) (if packed then k ∷ hs else h ∷ k ∷ hs)
    by_test true = each.1
    by_test false = each

-- ---- the arrays of the images

abbrev HasArray : List ℕ → Header → Type 0
HasArray file h = is_image file h ≡ true → RowsStandFor file h (image_array file h)

each_array : RestoringLaws → (file : List ℕ) (hs : List Header) → EachIs (Stands file) hs → RefusesNone (unpack_judge file) hs → IsFirstRowFault file (all_rows file hs) None →
    EachIs (HasArray file) hs
each_array laws file [] each none sound = tt
each_array laws file (h ∷ hs) each none sound = by_packed (each_array laws file hs each.1 none.1) (is_image file h) refl sound
  where
    by_packed : (IsFirstRowFault file (all_rows file hs) None → EachIs (HasArray file) hs) → (packed : Bool) → is_image file h ≡ packed →
        IsFirstRowFault file (flat_map (rows_of file) (cond packed (h ∷ filter (is_image file) hs) (filter (is_image file) hs))) None → EachIs (HasArray file) (h ∷ hs)
    by_packed later true is sound =
        let passed : first_refusal (unpack_hdu_checks file h) ≡ None = answer_none false (first_refusal (unpack_hdu_checks file h)) none.0 in
        let image : IsImageOf (header_in file h) h (image_in h (header_in file h)) = laws.faults.unpack h (header_in file h) (is_after_empty file h) each.0.0 is passed in
        let divided : AreTileLengths (lengths_of (plan_in file h).shape) (lengths_of (plan_in file h).tile) = laws.lengths (plan_in file h).shape (plan_in file h).tile image.divided in (
          λ same. array_stands laws file h (image_is file h each.0.0 each.0.1 image) divided (sound_front file (rows_of file h) (all_rows file hs) sound),
          later (sound_back file (rows_of file h) (all_rows file hs) sound),
        )
    by_packed later false is sound = (λ same. absurd cc, later sound)

as_recursion : (P : Header → Type 0) (hs : List Header) → EachIs P hs → AllByRecursion P hs
as_recursion P [] each = tt
as_recursion P (h ∷ hs) each = (each.0, as_recursion P hs each.1)

pub arrays_stand : RestoringLaws → ImageArraysStand
unfolding job_walk
arrays_stand laws file sound =
    let refused : header_fault Unpack file ≡ None = no_header_fault (header_fault Unpack file) Unpack file sound in
    let walk = found_walk Unpack file (walk_of (unpack_judge file) 65536 file) refused in
    let rows : IsFirstRowFault file (all_rows file (headers_for Unpack file)) None = subst (λ r. IsFaultBehind r Unpack file None) refused sound in
    let these : IsFirstRowFault file (all_rows file walk.0) None = subst (λ r. IsFirstRowFault file (all_rows file (found_headers r)) None) walk.1 rows in
    let found = laws.faults.headers (unpack_judge file) 65536 file walk.0 walk.1 in
    let each = each_array laws file walk.0 (each_stands 0 0 found.3.0 file walk.0 found.3.2 found.3.1) found.2 these in
    subst (λ r. All (HasArray file) (found_headers r)) (sym walk.1) (All-from_recursion (HasArray file) walk.0 (as_recursion (HasArray file) walk.0 each))

-- ---- the file

stands_with : RestoringLaws → (file : List ℕ) (hs : List Header) → walk_of (unpack_judge file) 65536 file ≡ Ok hs → IsFirstRowFault file (all_rows file hs) None →
    HdusStandFor file (standing file hs) (flat_map (restored_hdu file) (standing file hs))
stands_with laws file hs walk sound =
    let found = laws.faults.headers (unpack_judge file) 65536 file hs walk in
    let each = each_restored laws file hs (each_stands 0 0 found.3.0 file hs found.3.2 found.3.1) found.2 sound in
    all_restored file (standing file hs) (standing_restored file hs each)

pub stands_for_restored : RestoringLaws → StandsForRestored
unfolding job_walk restored
stands_for_restored laws file sound =
    let refused : header_fault Unpack file ≡ None = no_header_fault (header_fault Unpack file) Unpack file sound in
    let walk = found_walk Unpack file (walk_of (unpack_judge file) 65536 file) refused in
    let rows : IsFirstRowFault file (all_rows file (headers_for Unpack file)) None = subst (λ r. IsFaultBehind r Unpack file None) refused sound in
    let these : IsFirstRowFault file (all_rows file walk.0) None = subst (λ r. IsFirstRowFault file (all_rows file (found_headers r)) None) walk.1 rows in
    record {
      sound = sound;
      parts = subst (λ r. HdusStandFor file (standing file (found_headers r)) (flat_map (restored_hdu file) (standing file (found_headers r)))) (sym walk.1) (stands_with laws file walk.0 walk.1 these);
    }

pub stands_for_no_other : RestoringLaws → StandsForOneFile → StandsForNoOther
stands_for_no_other laws one file other stands = one file other (restored file) stands (stands_for_restored laws file stands.sound)

pub stands_for_exactly : RestoringLaws → StandsForOneFile → StandsForExactly
stands_for_exactly laws one file other bytes = (
  λ stands. (sym (first_fault_known laws.known laws.faults Unpack file None stands.sound), stands_for_no_other laws one file other stands),
  λ says.
      let sound : IsFirstFault Unpack file None = subst (λ found. IsFirstFault Unpack file found) says.0 (first_fault_is laws.faults Unpack file bytes) in
      subst (λ l. StandsFor file l) (sym says.1) (stands_for_restored laws file sound),
)
