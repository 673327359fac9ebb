-- The tiles with a pick, and zeros for the others, are the tiles of an array (FITS 4.0, section 10.1).
use Rattle.std.proofs.Common.{◌≡◌, ℕ, zero, suc, ◌+◌, ◌<◌, ◌==◌, Bool, true, false, cond, ℤ, pos, List, [], ◌∷◌, length, map, drop, replicate, slice_index_or, Option, Some, None, IfSome, refl, sym, ap, ◌∙◌, subst, arith}
use Rattle.std.specs.List.{AllByRecursion, filter, range_with_len}
use Rattle.std.specs.Prelude.{⊤}
use Rattle.std.proofs.lemmas.Bool.Decides.{nat_tests}
use Rattle.std.proofs.lemmas.List.{append-nil, length-replicate}
use Rattle.std.proofs.lemmas.List.FromFn.{get_or-map-range_with_len, length-map-range_with_len}
use Rattle.fz_block.specs.declared.header.Header.{Header}
use Rattle.fz_grid.specs.Arrays.{NumberArray}
use Rattle.fz_grid.specs.Division.{AreTileLengths}
use Rattle.fz_grid.specs.Grid.{tile}
use Rattle.fz_grid.specs.Laws.{JoinedHasTheTiles, JoinedIsArray}
use Rattle.fz_grid.specs.Overlap.{has_pixel}
use Rattle.fz_grid.specs.Region.{IsDivided, lengths_of}
use Rattle.fz_grid.specs.Sieve.{sieve_hi, sieve_lo, sieve_step, tile_picks}
use Rattle.fz_grid.specs.Whole.{AreTiles, joined}
use Rattle.fz_grid.specs.declared.sieve.Sieve.{Sieve}
use Rattle.fz_grid.specs.Cutout.{Sifts}
use Rattle.fz_tile.specs.Pixels.{IsBitpix}
use Rattle.fz_checks.specs.declared.job_checks.PackedImage.{PackedImage}
use Rattle.fz_head.specs.declared.plan.Plan.{Plan}
use Rattle.fz_files.specs.FirstFault.{picked_tiles_of}
use Rattle.fz_files.specs.Packed.{tiles_in}
use Rattle.fz_files.specs.Restored.{RowStandsFor, pixels_of, plan_in}
use Rattle.fz_fetch.specs.Fetched.{RowsGive}
use Rattle.fz_job.specs.Images.{IsSaid}
use Rattle.fz_pixels.specs.Laws.{PartsMakeTheBytes}
use Rattle.fz_pixels.specs.Scattered.{parts_written}
use Rattle.fz_cut.specs.Picks.{AreWrittenParts, HoldsPicks}
use Rattle.fz_cut.proofs.Rounds.{AreDone, IsTileWithPick}

-- the pixels of tile t among those of some tiles, or these
abbrev pub found_in : ℕ → List ℕ → List (List ℤ) → List ℤ → List ℤ
found_in t [] xs e = e
found_in t (u ∷ us) xs e = cond (t == u) (slice_index_or xs 0 e) (found_in t us (drop 1 xs) e)

-- each is lower than all after it
abbrev Ascending : List ℕ → Type 0
Ascending [] = ⊤
Ascending (t ∷ ts) = AllByRecursion (λ u. t < u) ts × Ascending ts

-- ---- the tiles with a pick ascend

all_if : (b : Bool) (m t : ℕ) (ts : List ℕ) → m < t → AllByRecursion (λ u. m < u) ts → AllByRecursion (λ u. m < u) (cond b (t ∷ ts) ts)
all_if true m t ts above all = (above, all)
all_if false m t ts above all = all

all_above : (q : ℕ → Bool) (m a n : ℕ) → m < a → AllByRecursion (λ u. m < u) (filter q (range_with_len a n))
all_above q m a zero above = tt
all_above q m a (suc n) above = all_if (q a) m a (filter q (range_with_len (a + 1) n)) above (all_above q m (a + 1) n (omega (arith, above)))

ascending_if : (b : Bool) (t : ℕ) (ts : List ℕ) → AllByRecursion (λ u. t < u) ts → Ascending ts → Ascending (cond b (t ∷ ts) ts)
ascending_if true t ts all later = (all, later)
ascending_if false t ts all later = later

ascends : (q : ℕ → Bool) (a n : ℕ) → Ascending (filter q (range_with_len a n))
ascends q a zero = tt
ascends q a (suc n) = ascending_if (q a) a (filter q (range_with_len (a + 1) n)) (all_above q a (a + 1) n (omega arith)) (ascends q (a + 1) n)

-- ---- what is found

same_number : (t : ℕ) → (t == t) ≡ true
same_number t = grind (arith, nat_tests)

other_number : (t u : ℕ) → u < t → (t == u) ≡ false
other_number t u above = grind (arith, nat_tests, above)

map_alike : (f g : ℕ → List ℤ) (ts : List ℕ) → AllByRecursion (λ t. f t ≡ g t) ts → map f ts ≡ map g ts
map_alike f g [] all = refl
map_alike f g (t ∷ ts) all = λ i. all.0 i ∷ map_alike f g ts all.1 i

all_weaker : (P Q : ℕ → Type 0) → ((t : ℕ) → P t → Q t) → (ts : List ℕ) → AllByRecursion P ts → AllByRecursion Q ts
all_weaker P Q weaker [] all = tt
all_weaker P Q weaker (t ∷ ts) all = (weaker t all.0, all_weaker P Q weaker ts all.1)

-- the pixels of all tiles
found_all : (e : ℕ → List ℤ) (ts : List ℕ) (xs : List (List ℤ)) → Ascending ts → length xs ≡ length ts → map (λ t. found_in t ts xs (e t)) ts ≡ xs
found_all e [] [] up same = refl
found_all e [] (x ∷ xs) up same = absurd (omega (arith, same))
found_all e (t ∷ ts) [] up same = absurd (omega (arith, same))
found_all e (t ∷ ts) (x ∷ xs) up same =
    let first : found_in t (t ∷ ts) (x ∷ xs) (e t) ≡ x = ap (λ b. cond b x (found_in t ts xs (e t))) (same_number t) in
    let others : map (λ u. found_in u (t ∷ ts) (x ∷ xs) (e u)) ts ≡ map (λ u. found_in u ts xs (e u)) ts =
    map_alike (λ u. found_in u (t ∷ ts) (x ∷ xs) (e u)) (λ u. found_in u ts xs (e u)) ts
    (all_weaker (λ u. t < u) (λ u. found_in u (t ∷ ts) (x ∷ xs) (e u) ≡ found_in u ts xs (e u)) (λ u above. ap (λ b. cond b x (found_in u ts xs (e u))) (other_number u t above)) ts up.0) in
    λ i. first i ∷ (others ∙ found_all e ts xs up.1 (omega (arith, same))) i

module _ (file : List ℕ) (h : Header) where
  later_given : (t : ℕ) (ts : List ℕ) (xs : List (List ℤ)) → RowsGive file h (t ∷ ts) xs → length xs ≡ suc (length ts) → RowsGive file h ts (drop 1 xs)
  later_given t ts [] give same = absurd (omega (arith, same))
  later_given t ts (x ∷ xs) give same = λ i e low. give (suc i) e (omega (arith, low))

  -- what is found of a tile has as many pixels as it
  count_if : (b : Bool) (t u : ℕ) (x y : List ℤ) → (t == u) ≡ b → RowStandsFor file h u x → length y ≡ pixels_of (plan_in file h) t → length (cond b x y) ≡ pixels_of (plan_in file h) t
  count_if true t u x y is stands long =
      let one : t ≡ u = grind (arith, nat_tests, is) in
      stands.count ∙ ap (pixels_of (plan_in file h)) (sym one)
  count_if false t u x y is stands long = long

  found_count : (t : ℕ) (ts : List ℕ) (xs : List (List ℤ)) (e : List ℤ) → RowsGive file h ts xs → length xs ≡ length ts → length e ≡ pixels_of (plan_in file h) t → length (found_in t ts xs e) ≡ pixels_of (plan_in file h) t
  found_count t [] xs e give same long = long
  found_count t (u ∷ us) [] e give same long = absurd (omega (arith, same))
  found_count t (u ∷ us) (x ∷ xs) e give same long =
      count_if (t == u) t u x (found_in t us xs e) refl (give 0 e (omega arith)) (found_count t us xs e (later_given u us (x ∷ xs) give (omega (arith, same))) (omega (arith, same)) long)

  -- the row of a tile among them stands for what is found
  stands_if : (b : Bool) (t u : ℕ) (x y : List ℤ) → (t == u) ≡ b → RowStandsFor file h u x → (b ≡ false → RowStandsFor file h t y) → RowStandsFor file h t (cond b x y)
  stands_if true t u x y is stands later =
      let one : u ≡ t = grind (arith, nat_tests, is) in
      subst (λ k. RowStandsFor file h k x) one stands
  stands_if false t u x y is stands later = later refl

  found_stands : (t k : ℕ) (ts : List ℕ) (xs : List (List ℤ)) (e : List ℤ) → RowsGive file h ts xs → length xs ≡ length ts → k < length ts → slice_index_or ts k t ≡ t → RowStandsFor file h t (found_in t ts xs e)
  found_stands t k [] xs e give same near here = absurd (omega (arith, near))
  found_stands t k (u ∷ us) [] e give same near here = absurd (omega (arith, same))
  found_stands t zero (u ∷ us) (x ∷ xs) e give same near here =
      subst (λ b. RowStandsFor file h t (cond b x (found_in t us xs e))) (sym (ap (λ (n : ℕ). t == n) here ∙ same_number t)) (subst (λ n. RowStandsFor file h n x) here (give 0 e (omega arith)))
  found_stands t (suc k) (u ∷ us) (x ∷ xs) e give same near here =
      stands_if (t == u) t u x (found_in t us xs e) refl (give 0 e (omega arith)) (λ other. found_stands t k us xs e (later_given u us (x ∷ xs) give (omega (arith, same))) (omega (arith, same)) (omega (arith, near)) here)

-- ---- the array

module _ (joined_array : JoinedIsArray) (has_tiles : JoinedHasTheTiles) (whole : PartsMakeTheBytes) (file : List ℕ) (h : Header) (sieve : Sieve) where
  abbrev p : Plan
  p = plan_in file h

  abbrev T : List ℕ
  T = picked_tiles_of p sieve

  abbrev zeros_of : ℕ → List ℤ
  zeros_of t = replicate (pixels_of p t) (pos 0)

  abbrev tiles_of : List (List ℤ) → List (List ℤ)
  tiles_of xs = map (λ t. found_in t T xs (zeros_of t)) (range_with_len 0 (tiles_in p))

  abbrev array_of : List (List ℤ) → NumberArray
  array_of xs = joined (lengths_of p.shape) (lengths_of p.tile) (tiles_of xs)

  lengths_same : (xs : List (List ℤ)) → (array_of xs).lengths ≡ lengths_of p.shape
  unfolding joined
  lengths_same xs = refl

  tile_found : (xs : List (List ℤ)) (t : ℕ) → t < tiles_in p → slice_index_or (tiles_of xs) t [] ≡ found_in t T xs (zeros_of t)
  tile_found xs t low = get_or-map-range_with_len (λ u. found_in u T xs (zeros_of u)) 0 (tiles_in p) t t [] low (omega arith)

  are_tiles : (xs : List (List ℤ)) → RowsGive file h T xs → length xs ≡ length T → AreTiles (lengths_of p.shape) (lengths_of p.tile) (tiles_of xs)
  are_tiles xs give same = record {
    count = length-map-range_with_len (λ t. found_in t T xs (zeros_of t)) 0 (tiles_in p);
    pixels = λ t low. ap length (tile_found xs t low) ∙ found_count file h t T xs (zeros_of t) give same (length-replicate {A = ℤ} (pixels_of p t) (pos 0));
  }

  tile_is : (xs : List (List ℤ)) → AreTileLengths (lengths_of p.shape) (lengths_of p.tile) → RowsGive file h T xs → length xs ≡ length T → (t : ℕ) → t < tiles_in p →
      tile (array_of xs) (lengths_of p.tile) t ≡ found_in t T xs (zeros_of t)
  tile_is xs lengths give same t low = has_tiles (lengths_of p.shape) (lengths_of p.tile) (tiles_of xs) t lengths (are_tiles xs give same) low ∙ tile_found xs t low

  low_at : (ts : List ℕ) (t k : ℕ) → AllByRecursion (IsTileWithPick p sieve) ts → k < length ts → slice_index_or ts k t ≡ t → t < tiles_in p
  low_at [] t k all near here = absurd (omega (arith, near))
  low_at (u ∷ us) t zero all near here = subst (λ n. n < tiles_in p) here all.0.0
  low_at (u ∷ us) t (suc k) all near here = low_at us t k all.1 (omega (arith, near)) here

  pub picks_written : (at : ℕ) (before now : Option (List ℕ)) → IsDivided p.shape p.tile → IsBitpix p.bitpix → AreTileLengths (lengths_of p.shape) (lengths_of p.tile) → Sifts (lengths_of p.shape) sieve →
      AllByRecursion (IsTileWithPick p sieve) T → AreWrittenParts (Some file) h p sieve at T before now → HoldsPicks file h p sieve at before now
  picks_written at before now divided size lengths sifts all done =
      let xs : List (List ℤ) = done.pixels in
      let up : Ascending T = ascends (λ t. has_pixel (tile_picks (lengths_of p.shape) (lengths_of p.tile) (sieve_lo sieve) (sieve_hi sieve) (sieve_step sieve) t)) 0 (tiles_in p) in
      let each : AllByRecursion (λ t. tile (array_of xs) (lengths_of p.tile) t ≡ found_in t T xs (zeros_of t)) T =
      all_weaker (IsTileWithPick p sieve) (λ t. tile (array_of xs) (lengths_of p.tile) t ≡ found_in t T xs (zeros_of t)) (λ t is. tile_is xs lengths done.told done.count t is.0) T all in
      let are : xs ≡ map (tile (array_of xs) (lengths_of p.tile)) T =
      sym (map_alike (tile (array_of xs) (lengths_of p.tile)) (λ t. found_in t T xs (zeros_of t)) T each ∙ found_all zeros_of T xs up done.count) in
      record {
        array = array_of xs;
        rows = record {
          lengths = lengths_same xs;
          whole = joined_array (lengths_of p.shape) (lengths_of p.tile) (tiles_of xs);
          tiles = λ t here. subst (RowStandsFor file h t) (sym (tile_is xs lengths done.told done.count t (low_at T t here.0 all here.1 here.2))) (found_stands file h t here.0 T xs (zeros_of t) done.told done.count here.1 here.2);
        };
        contents = done.contents ∙ ap (λ l. parts_written p sieve at T l before) are
            ∙ whole p sieve at (array_of xs) before divided size sifts (joined_array (lengths_of p.shape) (lengths_of p.tile) (tiles_of xs)) (lengths_same xs);
      }

-- with all tiles that hold a pick the picks were written
pub all_picked : JoinedIsArray → JoinedHasTheTiles → PartsMakeTheBytes → (held : Option (List ℕ)) (h : Header) (image : PackedImage) (sieve : Sieve) (at : ℕ) (before now : Option (List ℕ)) → IfSome held (λ file. IsSaid file h image) →
    IsDivided image.plan.shape image.plan.tile → IsBitpix image.plan.bitpix → AreTileLengths (lengths_of image.plan.shape) (lengths_of image.plan.tile) → Sifts (lengths_of image.plan.shape) sieve →
    AllByRecursion (IsTileWithPick image.plan sieve) (picked_tiles_of image.plan sieve) → AreDone held h image.plan sieve at [] [] before now → IfSome held (λ file. HoldsPicks file h image.plan sieve at before now)
all_picked array has whole None h image sieve at before now said divided size lengths sifts all done = tt
all_picked array has whole (Some file) h image sieve at before now said divided size lengths sifts all done =
    let plan : image.plan ≡ plan_in file h = sym said.plan in
    let every : done.front ≡ picked_tiles_of image.plan sieve = sym (done.parts ∙ append-nil done.front) in
    subst (λ (p : Plan). HoldsPicks file h p sieve at before now) (sym plan)
    (picks_written array has whole file h sieve at before now
    (subst (λ (p : Plan). IsDivided p.shape p.tile) plan divided)
    (subst (λ (p : Plan). IsBitpix p.bitpix) plan size)
    (subst (λ (p : Plan). AreTileLengths (lengths_of p.shape) (lengths_of p.tile)) plan lengths)
    (subst (λ (p : Plan). Sifts (lengths_of p.shape) sieve) plan sifts)
    (subst (λ (p : Plan). AllByRecursion (IsTileWithPick p sieve) (picked_tiles_of p sieve)) plan all)
    (subst (λ (p : Plan). AreWrittenParts (Some file) h p sieve at (picked_tiles_of p sieve) before now) plan
    (subst (λ ts. AreWrittenParts (Some file) h image.plan sieve at ts before now) every done.written)))
