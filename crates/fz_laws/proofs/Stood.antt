-- A packed file in which `unpack` finds no fault stands for a file: tile by tile, image by image, HDU by HDU.
use Rattle.std.specs.Prelude.{⊤, slice_index_or}
use Rattle.std.proofs.Common.{◌≡◌, ℕ, zero, suc, ◌+◌, ◌<◌, ◌≤◌, Bool, true, false, cond, ℤ, List, [], ◌∷◌, ◌++◌, length, map, None, Ok, if◌then◌else◌, refl, sym, subst, arith}
use Rattle.std.specs.List.{filter, flat_map, range_with_len}
use Rattle.fz_base.specs.Refusal.{first_refusal}
use Rattle.fz_block.specs.Checks.{Judge, walk_of}
use Rattle.fz_block.specs.Facts.{IsHeaderOf}
use Rattle.fz_block.specs.Hdus.{cards_of, hdu_bytes}
use Rattle.fz_block.specs.Header.{next_start_of}
use Rattle.fz_block.specs.Walk.{AreHeadersBetween, RefusesNone, hdu_of}
use Rattle.fz_block.specs.declared.header.Header.{Header}
use Rattle.fz_grid.specs.Arrays.{NumberArray}
use Rattle.fz_grid.specs.Division.{AreTileLengths}
use Rattle.fz_grid.specs.Laws.{DividedArraysHaveTiles, JoinedHasTheTiles, JoinedIsArray}
use Rattle.fz_grid.specs.Region.{lengths_of}
use Rattle.fz_grid.specs.Whole.{AreTiles, joined}
use Rattle.fz_checks.specs.JobChecks.{IsImageOf, image_in, is_after_empty, unpack_checks, unpack_hdu_checks}
use Rattle.fz_checks.specs.Judges.{unpack_judge}
use Rattle.fz_head.specs.Packable.{is_packed}
use Rattle.fz_head.specs.declared.plan.Plan.{Plan}
use Rattle.fz_files.specs.FirstFault.{ImageRow, IsFaultBehind, IsFirstFault, IsFirstRowFault, all_rows, image_row, rows_of}
use Rattle.fz_files.specs.Packed.{tiles_in}
use Rattle.fz_files.specs.Restored.{HduStandsFor, HdusStandFor, RowStandsFor, RowsStandFor, StandsForAs, header_in, image_bytes, is_image, is_packed_primary, plan_in, standing}
use Rattle.fz_files.specs.StandsFor.{StandsFor}
use Rattle.fz_files.specs.Walks.{found_headers, header_fault, headers_for, job_walk}
use Rattle.fz_files.specs.declared.job.Job.TheVariants.{Unpack}
use Rattle.fz_laws.specs.RoundTrip.{HasRestoredFile}
use Rattle.fz_laws.proofs.Sources.{answer_none}
use Rattle.fz_laws.proofs.Way.{found_walk, no_header_fault}

-- what is taken of the laws of walks, images and tiles
pub record StoodLaws : Type 0 where
  pub headers :
      (judge : Judge) (most : ℕ) (file : List ℕ) (hs : List Header) → walk_of judge most file ≡ Ok hs →
      (0 < length hs) × (length hs ≤ most) × RefusesNone judge hs × ((end : ℕ) × (end ≤ length file) × AreHeadersBetween 0 0 end file hs)
  pub images :
      (h : Header) (header : List ℕ) (after_empty : Bool) → IsHeaderOf header h → is_packed header h ≡ true → first_refusal (unpack_checks h header after_empty) ≡ None → IsImageOf header h (image_in h header)
  pub lengths : DividedArraysHaveTiles
  pub whole : JoinedIsArray
  pub tiles : JoinedHasTheTiles

-- ---- rows of which none is refused

pub sound_front : (file : List ℕ) (xs ys : List ImageRow) → IsFirstRowFault file (xs ++ ys) None → IsFirstRowFault file xs None
sound_front file [] ys sound = tt
sound_front file (r ∷ xs) ys sound = (sound.0, sound_front file xs ys sound.1)

pub sound_back : (file : List ℕ) (xs ys : List ImageRow) → IsFirstRowFault file (xs ++ ys) None → IsFirstRowFault file ys None
sound_back file [] ys sound = sound
sound_back file (r ∷ xs) ys sound = sound_back file xs ys sound.1

-- ---- the tiles of an image

module _ (file : List ℕ) (h : Header) where
  abbrev tiles_from : (a n : ℕ) → IsFirstRowFault file (map (image_row h) (range_with_len a n)) None → List (List ℤ)
  tiles_from a zero sound = []
  tiles_from a (suc n) sound = sound.0.0 ∷ tiles_from (a + 1) n sound.1

  tiles_count : (a n : ℕ) (sound : IsFirstRowFault file (map (image_row h) (range_with_len a n)) None) → length (tiles_from a n sound) ≡ n
  tiles_count a zero sound = refl
  tiles_count a (suc n) sound = let more = tiles_count (a + 1) n sound.1 in omega (arith, more)

  tile_stands : (a n i : ℕ) (sound : IsFirstRowFault file (map (image_row h) (range_with_len a n)) None) → i < n → RowStandsFor file h (a + i) (slice_index_or (tiles_from a n sound) i [])
  tile_stands a zero i sound less = absurd (omega (arith, less))
  tile_stands a (suc n) zero sound less = let at : a ≡ a + zero = omega arith in subst (λ t. RowStandsFor file h t sound.0.0) at sound.0.1
  tile_stands a (suc n) (suc i) sound less =
      let at : a + 1 + i ≡ a + suc i = omega arith in
      subst (λ t. RowStandsFor file h t (slice_index_or (tiles_from (a + 1) n sound.1) i [])) at (tile_stands (a + 1) n i sound.1 (omega (arith, less)))

pub joined_lengths : (array tile : List ℕ) (tiles : List (List ℤ)) → (joined array tile tiles).lengths ≡ array
unfolding joined
joined_lengths array tile tiles = refl

module _ (laws : StoodLaws) (file : List ℕ) (h : Header) where
  abbrev p : Plan
  p = plan_in file h

  -- the array of the image
  abbrev whole_of : IsFirstRowFault file (rows_of file h) None → NumberArray
  whole_of sound = joined (lengths_of p.shape) (lengths_of p.tile) (tiles_from file h 0 (tiles_in p) sound)

  rows_stand : AreTileLengths (lengths_of p.shape) (lengths_of p.tile) → (sound : IsFirstRowFault file (rows_of file h) None) → RowsStandFor file h (whole_of sound)
  rows_stand divided sound =
      let tiles : List (List ℤ) = tiles_from file h 0 (tiles_in p) sound in
      let stands : (t : ℕ) → t < tiles_in p → RowStandsFor file h t (slice_index_or tiles t []) = λ t less.
      let at : 0 + t ≡ t = omega arith in
      subst (λ n. RowStandsFor file h n (slice_index_or tiles t [])) at (tile_stands file h 0 (tiles_in p) t sound less) in
      let are : AreTiles (lengths_of p.shape) (lengths_of p.tile) tiles = record { count = tiles_count file h 0 (tiles_in p) sound; pixels = λ t less. (stands t less).count } in
      record {
        lengths = joined_lengths (lengths_of p.shape) (lengths_of p.tile) tiles;
        whole = laws.whole (lengths_of p.shape) (lengths_of p.tile) tiles;
        tiles = λ t less. subst (λ xs. RowStandsFor file h t xs) (sym (laws.tiles (lengths_of p.shape) (lengths_of p.tile) tiles t divided are less)) (stands t less);
      }

  -- what it stands for, and that no row of the images after it is refused
  hdu_stands : (b : Bool) → is_image file h ≡ b → IsHeaderOf (header_in file h) h → first_refusal (unpack_hdu_checks file h) ≡ None → (images : List Header) →
      IsFirstRowFault file (flat_map (rows_of file) (cond b (h ∷ images) images)) None → ((bytes : List ℕ) × StandsForAs b file h bytes) × IsFirstRowFault file (flat_map (rows_of file) images) None
  hdu_stands true is are none images sound =
      let rows : IsFirstRowFault file (rows_of file h) None = sound_front file (rows_of file h) (flat_map (rows_of file) images) sound in
      let image = laws.images h (header_in file h) (is_after_empty file h) are is none in
      let divided : AreTileLengths (lengths_of p.shape) (lengths_of p.tile) = laws.lengths p.shape p.tile image.divided in
      ((image_bytes p (cards_of (header_in file h)) (whole_of rows), record { array = whole_of rows; rows = rows_stand divided rows; image = refl }), sound_back file (rows_of file h) (flat_map (rows_of file) images) sound)
  hdu_stands false is are none images sound = ((hdu_bytes (hdu_of file h), refl), sound)

-- ---- HDUs, one after another

abbrev Each : (Header → Type 0) → List Header → Type 0
Each P [] = ⊤
Each P (h ∷ hs) = P h × Each P hs

abbrev Stood : List ℕ → Header → Type 0
Stood file h = (bytes : List ℕ) × HduStandsFor file h bytes

each_stands : StoodLaws → (file : List ℕ) (k start end : ℕ) (hs : List Header) → AreHeadersBetween k start end file hs → RefusesNone (unpack_judge file) hs → IsFirstRowFault file (all_rows file hs) None → Each (Stood file) hs
each_stands laws file k start end [] are none sound = tt
each_stands laws file k start end (h ∷ hs) are none sound =
    let passed : first_refusal (unpack_hdu_checks file h) ≡ None = answer_none false (first_refusal (unpack_hdu_checks file h)) none.0 in
    let here : Stood file h × IsFirstRowFault file (all_rows file hs) None = hdu_stands laws file h (is_image file h) refl are.2 passed (filter (is_image file) hs) sound in
    (here.0, each_stands laws file (suc k) (next_start_of h) end hs are.3 none.1 here.1)

standing_each : (file : List ℕ) (hs : List Header) → Each (Stood file) hs → Each (Stood file) (standing file hs)
standing_each file [] each = tt
standing_each file (h ∷ []) each = each
standing_each file (h ∷ (k ∷ hs)) each = by_test (is_packed_primary file k)
  where
    by_test : (packed : Bool) → Each (Stood file) (if packed then k ∷ hs else h ∷ k ∷ hs)
    by_test true = each.1
    by_test false = each

all_stand : (file : List ℕ) (hs : List Header) → Each (Stood file) hs → (bytes : List ℕ) × HdusStandFor file hs bytes
all_stand file [] each = ([], refl)
all_stand file (h ∷ hs) each =
    let rest : (bytes : List ℕ) × HdusStandFor file hs bytes = all_stand file hs each.1 in
    (each.0.0 ++ rest.0, (each.0.0, rest.0, refl, each.0.1, rest.1))

-- ---- the file

stands_with : StoodLaws → (file : List ℕ) (hs : List Header) → walk_of (unpack_judge file) 65536 file ≡ Ok hs → IsFirstFault Unpack file None → (restored : List ℕ) × StandsFor file restored
unfolding job_walk
stands_with laws file hs walk sound =
    let found = laws.headers (unpack_judge file) 65536 file hs walk in
    let none : header_fault Unpack file ≡ None = no_header_fault (header_fault Unpack file) Unpack file sound in
    let rows : IsFirstRowFault file (all_rows file (headers_for Unpack file)) None = subst (λ r. IsFaultBehind r Unpack file None) none sound in
    let these : IsFirstRowFault file (all_rows file hs) None = subst (λ r. IsFirstRowFault file (all_rows file (found_headers r)) None) walk rows in
    let each : Each (Stood file) hs = each_stands laws file 0 0 found.3.0 hs found.3.2 found.2 these in
    let stood : (bytes : List ℕ) × HdusStandFor file (standing file hs) bytes = all_stand file (standing file hs) (standing_each file hs each) in
    (stood.0, record { sound = sound; parts = subst (λ r. HdusStandFor file (standing file (found_headers r)) stood.0) (sym walk) stood.1 })

pub stands_for_some : StoodLaws → HasRestoredFile
unfolding job_walk
stands_for_some laws file sound =
    let walk = found_walk Unpack file (walk_of (unpack_judge file) 65536 file) (no_header_fault (header_fault Unpack file) Unpack file sound) in
    stands_with laws file walk.0 walk.1 sound
