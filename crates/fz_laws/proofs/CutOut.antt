-- A packed file in which `cut` finds no fault has a cutout: the numbers of the rows of the tiles that hold a pick, with zeros as those of
-- the other tiles.
use Rattle.std.specs.Prelude.{Contains, slice_index_or}
use Rattle.std.proofs.Common.{◌≡◌, ℕ, zero, suc, ◌+◌, ◌<◌, ◌≤◌, ◌⊎◌, inl, inr, ◌==◌, Bool, true, false, ℤ, pos, List, [], ◌∷◌, length, map, replicate, Option, None, Ok, refl, sym, subst, ap, ◌∙◌, arith}
use Rattle.std.specs.List.{AllByRecursion, flat_map, range_with_len}
use Rattle.std.proofs.lemmas.List.Elements.{All-contains, All-filter, All-from_recursion}
use Rattle.fz_block.specs.Walk.{stops}
use Rattle.fz_grid.specs.Grid.{tile_count}
use Rattle.std.proofs.lemmas.List.{append-nil, length-replicate}
use Rattle.std.proofs.lemmas.List.FromFn.{get_or-map-range_with_len, length-map-range_with_len}
use Rattle.fz_block.specs.Checks.{walk_of}
use Rattle.fz_block.specs.Hdus.{cards_of}
use Rattle.fz_block.specs.declared.header.Header.{Header}
use Rattle.fz_grid.specs.Arrays.{NumberArray}
use Rattle.fz_grid.specs.Division.{AreTileLengths}
use Rattle.fz_grid.specs.Laws.{DividedArraysHaveTiles, JoinedHasTheTiles, JoinedIsArray}
use Rattle.fz_grid.specs.Region.{lengths_of}
use Rattle.fz_grid.specs.Sieve.{picked_tiles, sieve_hi, sieve_lo, sieve_step, tile_picks}
use Rattle.fz_grid.specs.Overlap.{has_pixel}
use Rattle.fz_grid.specs.Whole.{AreTiles, joined}
use Rattle.fz_grid.specs.declared.sieve.Sieve.{Sieve}
use Rattle.fz_grid.specs.Cutout.{picked_numbers}
use Rattle.fz_checks.specs.JobChecks.{IsImageOf, image_in}
use Rattle.fz_checks.specs.Judges.{cut_judge}
use Rattle.fz_head.specs.declared.plan.Plan.{Plan}
use Rattle.fz_files.specs.Cutout.{AreCutFrom, PickedRowsStandFor}
use Rattle.fz_files.specs.CutoutBytes.{cutout_bytes}
use Rattle.fz_files.specs.FirstFault.{IsFaultBehind, IsFirstRowFault, IsRowSound, image_row, picked_rows, picked_tiles_of}
use Rattle.fz_files.specs.Packed.{tiles_in}
use Rattle.fz_files.specs.Restored.{RowStandsFor, header_in, pixels_of, plan_in}
use Rattle.fz_files.specs.Walks.{box_of, found_headers, header_fault, headers_for, job_walk, last_of}
use Rattle.fz_files.specs.declared.job.Job.TheVariants.{Cut}
use Rattle.fz_laws.specs.RoundTrip.{HasCutout}
use Rattle.fz_laws.specs.RoundTripTaken.{FaultLaws}
use Rattle.fz_laws.proofs.FirstFaults.{cut_header, cut_image, found_walk, stops_if}
use Rattle.fz_laws.proofs.Stood.{joined_lengths}
use Rattle.fz_laws.proofs.Tests.{eq_false, eq_true}
use Rattle.fz_laws.proofs.Way.{no_header_fault}

-- what is taken of the laws of faults and arrays
pub record CutLaws : Type 0 where
  pub faults : FaultLaws
  pub lengths : DividedArraysHaveTiles
  pub whole : JoinedIsArray
  pub tiles : JoinedHasTheTiles

-- ---- whether a tile is among some

among : (ts : List ℕ) (t : ℕ) → Contains ts t ⊎ (Contains ts t → ⊥)
among [] t = inr (λ c. absurd (omega (arith, c.1)))
among (s ∷ ts) t = by_test (s == t) refl (among ts t)
  where
    later : Contains ts t → Contains (s ∷ ts) t
    later c = let more = c.1 in (suc c.0, omega (arith, more), c.2)

    behind : (k : ℕ) → k < length (s ∷ ts) → slice_index_or (s ∷ ts) k t ≡ t → ((s == t) ≡ false) → Contains ts t
    behind zero less at e = absurd (eq_false s t e at)
    behind (suc k) less at e = (k, omega (arith, less), at)

    by_test : (b : Bool) → (s == t) ≡ b → Contains ts t ⊎ (Contains ts t → ⊥) → Contains (s ∷ ts) t ⊎ (Contains (s ∷ ts) t → ⊥)
    by_test true e rest = let some : 0 < length (s ∷ ts) = omega arith in inl (0, some, eq_true s t e)
    by_test false e (inl c) = inl (later c)
    by_test false e (inr none) = inr (λ c. none (behind c.0 c.1 c.2 e))

-- ---- the tiles of an image

module _ (file : List ℕ) (h : Header) where
  abbrev p : Plan
  p = plan_in file h

  -- a row among some of which none is refused stands for pixels
  sound_at : (ts : List ℕ) (t : ℕ) → IsFirstRowFault file (map (image_row h) ts) None → Contains ts t → IsRowSound file (image_row h t)
  sound_at [] t sound c = absurd (omega (arith, c.1))
  sound_at (s ∷ ts) t sound c = by_place (sound_at ts t sound.1) c.0 c.1 c.2
    where
      by_place : (Contains ts t → IsRowSound file (image_row h t)) → (k : ℕ) → k < length (s ∷ ts) → slice_index_or (s ∷ ts) k t ≡ t → IsRowSound file (image_row h t)
      by_place later zero less at = subst (λ n. IsRowSound file (image_row h n)) at sound.0
      by_place later (suc k) less at = later (k, omega (arith, less), at)

  -- pixels for tile t, which are those of its row where it is among these
  abbrev TileFor : List ℕ → ℕ → Type 0
  TileFor ts t = (xs : List ℤ) × (length xs ≡ pixels_of p t) × (Contains ts t → RowStandsFor file h t xs)

  tile_for : (ts : List ℕ) (t : ℕ) → IsFirstRowFault file (map (image_row h) ts) None → TileFor ts t
  tile_for ts t sound = by_place (among ts t)
    where
      by_place : Contains ts t ⊎ (Contains ts t → ⊥) → TileFor ts t
      by_place (inl c) = let row = sound_at ts t sound c in (row.0, row.1.count, λ _. row.1)
      by_place (inr none) = (replicate (pixels_of p t) (pos 0), length-replicate (pixels_of p t) (pos 0), λ c. absurd (none c))

module _ (laws : CutLaws) (file : List ℕ) (h : Header) (sieve : Sieve) (sound : IsFirstRowFault file (picked_rows file sieve h) None) where
  abbrev plan : Plan
  plan = plan_in file h

  abbrev picked : List ℕ
  picked = picked_tiles_of plan sieve

  abbrev tile_number : ℕ → List ℤ
  tile_number t = (tile_for file h picked t sound).0

  abbrev tiles : List (List ℤ)
  tiles = map tile_number (range_with_len 0 (tiles_in plan))

  abbrev array : NumberArray
  array = joined (lengths_of plan.shape) (lengths_of plan.tile) tiles

  tile_at : (t : ℕ) → t < tiles_in plan → slice_index_or tiles t [] ≡ tile_number t
  tile_at t less = let at : 0 + t ≡ t = omega arith in get_or-map-range_with_len tile_number 0 (tiles_in plan) t t [] less at

  are_tiles : AreTiles (lengths_of plan.shape) (lengths_of plan.tile) tiles
  are_tiles = record {
    count = length-map-range_with_len tile_number 0 (tiles_in plan);
    pixels = λ t less. ap length (tile_at t less) ∙ (tile_for file h picked t sound).1;
  }

  rows_stand : AreTileLengths (lengths_of plan.shape) (lengths_of plan.tile) → ((t : ℕ) → Contains picked t → t < tiles_in plan) → PickedRowsStandFor file h sieve array
  rows_stand divided below = record {
    lengths = joined_lengths (lengths_of plan.shape) (lengths_of plan.tile) tiles;
    whole = laws.whole (lengths_of plan.shape) (lengths_of plan.tile) tiles;
    tiles = λ t here.
        let less : t < tiles_in plan = below t here in
        subst (λ xs. RowStandsFor file h t xs) (sym (laws.tiles (lengths_of plan.shape) (lengths_of plan.tile) tiles t divided are_tiles less ∙ tile_at t less))
        ((tile_for file h picked t sound).2 here);
  }

-- a tile with a pick is one of the image's
picked_below : (array tile : List ℕ) (sieve : Sieve) (t : ℕ) → Contains (picked_tiles array tile (sieve_lo sieve) (sieve_hi sieve) (sieve_step sieve)) t → t < tile_count array tile
picked_below array tile sieve t here =
    All-contains (λ k. k < tile_count array tile) _ t
    (All-filter (λ k. has_pixel (tile_picks array tile (sieve_lo sieve) (sieve_hi sieve) (sieve_step sieve) k)) (λ k. k < tile_count array tile) (range_with_len 0 (tile_count array tile))
    (All-from_recursion (λ k. k < tile_count array tile) (range_with_len 0 (tile_count array tile)) (below 0 (tile_count array tile) (tile_count array tile) (same (tile_count array tile)))))
    here
  where
    same : (n : ℕ) → 0 + n ≤ n
    same n = omega arith

    below : (a n end : ℕ) → a + n ≤ end → AllByRecursion (λ k. k < end) (range_with_len a n)
    below a zero end within = tt
    below a (suc n) end within = (omega (arith, within), below (a + 1) n end (omega (arith, within)))

-- ---- the file

rows_of_one : (file : List ℕ) (sieve : Sieve) (h : Header) → IsFirstRowFault file (flat_map (picked_rows file sieve) (h ∷ [])) None → IsFirstRowFault file (picked_rows file sieve h) None
rows_of_one file sieve h sound = subst (λ rs. IsFirstRowFault file rs None) (append-nil (picked_rows file sieve h)) sound

-- the part of the image that a cut stops at
part_of : CutLaws → (file : List ℕ) (h : Header) (sieve : Sieve) → IsImageOf (header_in file h) h (image_in h (header_in file h)) → IsFirstRowFault file (picked_rows file sieve h) None →
    (numbers : List ℤ) × AreCutFrom file h sieve numbers
part_of laws file h sieve image sound =
    let divided : AreTileLengths (lengths_of (plan_in file h).shape) (lengths_of (plan_in file h).tile) = laws.lengths (plan_in file h).shape (plan_in file h).tile image.divided in (
      picked_numbers (array laws file h sieve sound) sieve,
      record {
        array = array laws file h sieve sound;
        rows = rows_stand laws file h sieve sound divided (λ t here. picked_below (lengths_of (plan_in file h).shape) (lengths_of (plan_in file h).tile) sieve t here);
        picked = refl;
      },
    )

cut_with : CutLaws → (wanted : Option ℕ) (sieve : Sieve) (file : List ℕ) (hs : List Header) → walk_of (cut_judge wanted (box_of sieve) file) 65536 file ≡ Ok hs →
    stops (cut_judge wanted (box_of sieve) file) hs ≡ true → IsFirstRowFault file (flat_map (picked_rows file sieve) (last_of hs)) None →
    (h : Header) × (last_of hs ≡ h ∷ []) × ((numbers : List ℤ) × AreCutFrom file h sieve numbers)
cut_with laws wanted sieve file hs walk stop sound =
    let last = cut_header laws.faults wanted sieve file hs walk stop in
    let rows = rows_of_one file sieve last.0 (subst (λ l. IsFirstRowFault file (flat_map (picked_rows file sieve) l) None) last.1 sound) in
    (last.0, last.1, part_of laws file last.0 sieve (cut_image laws.faults wanted sieve file last.0 last.2 last.3) rows)

pub has_cutout : CutLaws → HasCutout
unfolding job_walk
has_cutout laws wanted sieve file sound =
    let refused : header_fault (Cut wanted sieve) file ≡ None = no_header_fault (header_fault (Cut wanted sieve) file) (Cut wanted sieve) file sound in
    let walk = found_walk (Cut wanted sieve) file (walk_of (cut_judge wanted (box_of sieve) file) 65536 file) refused in
    let rows : IsFirstRowFault file (flat_map (picked_rows file sieve) (last_of (headers_for (Cut wanted sieve) file))) None = subst (λ r. IsFaultBehind r (Cut wanted sieve) file None) refused sound in
    let these : IsFirstRowFault file (flat_map (picked_rows file sieve) (last_of walk.0)) None = subst (λ r. IsFirstRowFault file (flat_map (picked_rows file sieve) (last_of (found_headers r))) None) walk.1 rows in
    let part = cut_with laws wanted sieve file walk.0 walk.1 (stops_if wanted (cut_judge wanted (box_of sieve) file) file walk.0 walk.2) these in
    let last : last_of (headers_for (Cut wanted sieve) file) ≡ part.0 ∷ [] = ap (λ r. last_of (found_headers r)) walk.1 ∙ part.1 in (
      cutout_bytes (plan_in file part.0) (cards_of (header_in file part.0)) sieve part.2.0,
      record { sound = sound; header = part.0; last = last; numbers = part.2.0; cut = part.2.1; made = refl },
    )
