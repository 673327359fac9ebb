-- Rounds of tiles that were fetched and written, one after another (FITS 4.0, sections 3.3.2 and 10.1).
use Rattle.std.proofs.Common.{◌≡◌, ℕ, zero, suc, ◌+◌, ◌-◌, ◌<◌, ◌≤◌, ℤ, List, [], ◌∷◌, ◌++◌, length, map, slice_index, slice_index_or, Option, Some, None, IfSome, refl, sym, ap, ◌∙◌, subst, arith}
use Rattle.std.specs.List.{range_with_len}
use Rattle.std.proofs.lemmas.List.{length-append, map-append}
use Rattle.std.proofs.lemmas.List.FromFn.{get_or-range_with_len, length-range_with_len}
use Rattle.fz_base.specs.declared.fault.Fault.{Fault}
use Rattle.fz_block.specs.declared.header.Header.{Header}
use Rattle.fz_grid.specs.Arrays.{NumberArray}
use Rattle.fz_grid.specs.Division.{AreTileLengths}
use Rattle.fz_grid.specs.Laws.{JoinedHasTheTiles, JoinedIsArray}
use Rattle.fz_grid.specs.Region.{IsDivided, lengths_of}
use Rattle.fz_grid.specs.Whole.{AreTiles, joined}
use Rattle.fz_tile.specs.Pixels.{IsBitpix}
use Rattle.fz_checks.specs.declared.job_checks.PackedImage.{PackedImage}
use Rattle.fz_head.specs.declared.plan.Plan.{Plan}
use Rattle.fz_files.specs.FirstFault.{ImageRow, IsFirstRowFault, image_row, rows_of}
use Rattle.fz_files.specs.Packed.{tiles_in}
use Rattle.fz_files.specs.Restored.{RowStandsFor, plan_in}
use Rattle.fz_pool.specs.declared.slot.Slot.{Slot}
use Rattle.fz_fetch.specs.Fetched.{AreFetched, HaveTiles, RowsGive}
use Rattle.fz_job.specs.Images.{AreTilesOf, IsSaid}
use Rattle.fz_pixels.specs.Laws.{JoinsRounds, TilesMakeTheBytes}
use Rattle.fz_pixels.specs.Scattered.{tiles_written}
use Rattle.fz_unpack.specs.Images.{AreWrittenTiles, CanRestore, HoldsPixels}
use Rattle.fz_unpack.proofs.Rows.{fault_before, fault_behind}

-- ---- numbers of tiles

pub number_at : (first count i : ℕ) → i < count → slice_index (range_with_len first count) i ≡ first + i
number_at first count i low = get_or-range_with_len first count i 0 low

-- numbers from one on are those of a round, and those after it
pub range_more : (a m n : ℕ) → range_with_len a (m + n) ≡ range_with_len a m ++ range_with_len (a + m) n
range_more a zero n =
    let none : zero + n ≡ n = omega arith in
    let same : a ≡ a + zero = omega arith in
    ap (range_with_len a) none ∙ ap (λ k. range_with_len k n) same
range_more a (suc m) n =
    let long : suc m + n ≡ suc (m + n) = omega arith in
    let place : a + 1 + m ≡ a + suc m = omega arith in
    ap (range_with_len a) long
    ∙ ap (λ (l : List ℕ). a ∷ l) (range_more (a + 1) m n ∙ ap (λ k. range_with_len (a + 1) m ++ range_with_len k n) place)

-- as many as there are places for them
pub numbered : (first count : ℕ) (places tiles : List ℕ) → tiles ≡ range_with_len first (length places) → length places ≡ count → tiles ≡ range_with_len first count
numbered first count places tiles are long = are ∙ ap (range_with_len first) long

-- they are numbers of tiles of the image
pub tiles_of_image : (image : PackedImage) (first count : ℕ) (tiles : List ℕ) → tiles ≡ range_with_len first count → first + count ≤ tiles_in image.plan → AreTilesOf image tiles
tiles_of_image image first count tiles are few =
    subst (AreTilesOf image) (sym are)
    (λ i low. let near : i < count = omega (arith, low, length-range_with_len first count) in let is = number_at first count i near in omega (arith, is, near, few))

-- of a source that is as it was the image can still be restored
pub restorable_still : (h : Header) (image : PackedImage) (at tiles : ℕ) (held held' : Option (List ℕ)) (attached attached' : Option ℕ) → held' ≡ held → attached' ≡ attached →
    CanRestore held attached h image at tiles → CanRestore held' attached' h image at tiles
restorable_still h image at tiles held held' attached attached' same there can =
    subst (λ (l : Option (List ℕ)). CanRestore l attached' h image at tiles) (sym same)
    (subst (λ (a : Option ℕ). CanRestore held a h image at tiles) (sym there) can)

-- ---- rows

module _ (file : List ℕ) (h : Header) where
  -- rows that stand for pixels are sound
  pub given_sound : (tiles : List ℕ) (pixels : List (List ℤ)) → RowsGive file h tiles pixels → IsFirstRowFault file (map (image_row h) tiles) None
  given_sound [] pixels give = tt
  given_sound (t ∷ ts) [] give = ((_, give 0 [] (omega arith)), given_sound ts [] (λ i e low. give (suc i) e (omega (arith, low))))
  given_sound (t ∷ ts) (xs ∷ pixels) give = ((xs, give 0 [] (omega arith)), given_sound ts pixels (λ i e low. give (suc i) e (omega (arith, low))))

  given_at : (front back : List ℕ) (xs ys : List (List ℤ)) → length xs ≡ length front → RowsGive file h front xs → RowsGive file h back ys →
      (i : ℕ) (e : List ℤ) → i < length (front ++ back) → RowStandsFor file h (slice_index (front ++ back) i) (slice_index_or (xs ++ ys) i e)
  given_at [] back [] ys same one two i e low = two i e low
  given_at [] back (x ∷ xs) ys same one two i e low = absurd (omega (arith, same))
  given_at (t ∷ ts) back [] ys same one two i e low = absurd (omega (arith, same))
  given_at (t ∷ ts) back (x ∷ xs) ys same one two zero e low = one 0 e (omega arith)
  given_at (t ∷ ts) back (x ∷ xs) ys same one two (suc i) e low =
      given_at ts back xs ys (omega (arith, same)) (λ k d near. one (suc k) d (omega (arith, near))) two i e (omega (arith, low))

  -- the fault of a round after rows that are sound is the first of all
  pub fault_in_round : (first count n : ℕ) (x : Fault) → first + count ≤ n → IsFirstRowFault file (map (image_row h) (range_with_len 0 first)) None →
      IsFirstRowFault file (map (image_row h) (range_with_len first count)) (Some x) → IsFirstRowFault file (map (image_row h) (range_with_len 0 n)) (Some x)
  fault_in_round first count n x few sound fault =
      let rest : ℕ = n - (first + count) in
      let rows : List ℕ → List ImageRow = map (image_row h) in
      let all : n ≡ first + (count + rest) = omega (arith, few) in
      let begin : 0 + first ≡ first = omega arith in
      let split : range_with_len 0 n ≡ range_with_len 0 first ++ (range_with_len first count ++ range_with_len (first + count) rest) =
      ap (range_with_len 0) all ∙ range_more 0 first (count + rest)
      ∙ ap (λ k. range_with_len 0 first ++ range_with_len k (count + rest)) begin
      ∙ ap (λ l. range_with_len 0 first ++ l) (range_more first count rest) in
      let parts : rows (range_with_len 0 n) ≡ rows (range_with_len 0 first) ++ (rows (range_with_len first count) ++ rows (range_with_len (first + count) rest)) =
      ap rows split ∙ map-append (image_row h) (range_with_len 0 first) (range_with_len first count ++ range_with_len (first + count) rest)
      ∙ ap (λ l. rows (range_with_len 0 first) ++ l) (map-append (image_row h) (range_with_len first count) (range_with_len (first + count) rest)) in
      subst (λ l. IsFirstRowFault file l (Some x)) (sym parts)
      (fault_behind file (rows (range_with_len 0 first)) (rows (range_with_len first count) ++ rows (range_with_len (first + count) rest)) x sound
      (fault_before file (rows (range_with_len first count)) (rows (range_with_len (first + count) rest)) x fault))

-- ---- one round

-- what was fetched was written
pub round_written : (held : Option (List ℕ)) (h : Header) (p : Plan) (at first count : ℕ) (tiles : List ℕ) (slots : List Slot) (before now : Option (List ℕ)) → tiles ≡ range_with_len first count →
    AreFetched held h p tiles slots → ((pixels : List (List ℤ)) → HaveTiles p tiles slots pixels → now ≡ tiles_written p at tiles pixels before) →
    IfSome held (λ file. AreWrittenTiles file h p at (range_with_len first count) before now)
round_written None h p at first count tiles slots before now are fetched put = tt
round_written (Some file) h p at first count tiles slots before now are fetched put =
    subst (λ (ts : List ℕ). AreWrittenTiles file h p at ts before now) are (record {
      pixels = fetched.pixels;
      count = fetched.have.count;
      rows = fetched.told;
      contents = put fetched.pixels fetched.have;
    })

-- ---- round after round

pub none_written : (held : Option (List ℕ)) (h : Header) (p : Plan) (at : ℕ) (contents : Option (List ℕ)) → IfSome held (λ file. AreWrittenTiles file h p at (range_with_len 0 0) contents contents)
none_written None h p at contents = tt
none_written (Some file) h p at contents = record { pixels = []; count = refl; rows = λ i e low. absurd (omega (arith, low)); contents = refl }

pub more_tiles : JoinsRounds → (held : Option (List ℕ)) (h : Header) (p : Plan) (at first count : ℕ) (before mid now : Option (List ℕ)) →
    IfSome held (λ file. AreWrittenTiles file h p at (range_with_len 0 first) before mid) → IfSome held (λ file. AreWrittenTiles file h p at (range_with_len first count) mid now) →
    IfSome held (λ file. AreWrittenTiles file h p at (range_with_len 0 (first + count)) before now)
more_tiles joins None h p at first count before mid now done round = tt
more_tiles joins (Some file) h p at first count before mid now done round =
    let front : List ℕ = range_with_len 0 first in
    let back : List ℕ = range_with_len first count in
    let begin : 0 + first ≡ first = omega arith in
    let pixels : length (done.pixels ++ round.pixels) ≡ length done.pixels + length round.pixels = length-append done.pixels round.pixels in
    let numbers : length (front ++ back) ≡ length front + length back = length-append front back in
    let both : range_with_len 0 (first + count) ≡ front ++ back = range_more 0 first count ∙ ap (λ k. front ++ range_with_len k count) begin in
    subst (λ (ts : List ℕ). AreWrittenTiles file h p at ts before now) (sym both) (record {
      pixels = done.pixels ++ round.pixels;
      count = omega (arith, pixels, numbers, done.count, round.count);
      rows = given_at file h front back done.pixels round.pixels done.count done.rows round.rows;
      contents = round.contents ∙ ap (tiles_written p at back round.pixels) done.contents ∙ sym (joins p at front back done.pixels round.pixels before done.count);
    })

-- a refused row of the next round is the first of the image
pub refused_in_round : (held : Option (List ℕ)) (h : Header) (image : PackedImage) (at first count : ℕ) (before mid : Option (List ℕ)) (x : Fault) → IfSome held (λ file. IsSaid file h image) → first + count ≤ tiles_in image.plan →
    IfSome held (λ file. AreWrittenTiles file h image.plan at (range_with_len 0 first) before mid) →
    IfSome held (λ file. IsFirstRowFault file (map (image_row h) (range_with_len first count)) (Some x)) → IfSome held (λ file. IsFirstRowFault file (rows_of file h) (Some x))
refused_in_round None h image at first count before mid x said few done fault = tt
refused_in_round (Some file) h image at first count before mid x said few done fault =
    let sound : IsFirstRowFault file (map (image_row h) (range_with_len 0 first)) None = given_sound file h (range_with_len 0 first) done.pixels done.rows in
    subst (λ (p : Plan). IsFirstRowFault file (map (image_row h) (range_with_len 0 (tiles_in p))) (Some x)) (sym said.plan)
    (fault_in_round file h first count (tiles_in image.plan) x few sound fault)

-- ---- the whole image

module _ (joined_array : JoinedIsArray) (has_tiles : JoinedHasTheTiles) (whole : TilesMakeTheBytes) (file : List ℕ) (h : Header) where
  abbrev p : Plan
  p = plan_in file h

  abbrev array_of : List (List ℤ) → NumberArray
  array_of pixels = joined (lengths_of p.shape) (lengths_of p.tile) pixels

  lengths_same : (pixels : List (List ℤ)) → (array_of pixels).lengths ≡ lengths_of p.shape
  unfolding joined
  lengths_same pixels = refl

  -- the row of tile t
  row_of : (pixels : List (List ℤ)) → RowsGive file h (range_with_len 0 (tiles_in p)) pixels → (t : ℕ) → t < tiles_in p → RowStandsFor file h t (slice_index_or pixels t [])
  row_of pixels give t few =
      let place : slice_index (range_with_len 0 (tiles_in p)) t ≡ t = number_at 0 (tiles_in p) t few ∙ omega arith in
      subst (λ k. RowStandsFor file h k (slice_index_or pixels t [])) place (give t [] (omega (arith, few, length-range_with_len 0 (tiles_in p))))

  are_tiles : (pixels : List (List ℤ)) → length pixels ≡ length (range_with_len 0 (tiles_in p)) → RowsGive file h (range_with_len 0 (tiles_in p)) pixels → AreTiles (lengths_of p.shape) (lengths_of p.tile) pixels
  are_tiles pixels count give = record {
    count = count ∙ length-range_with_len 0 (tiles_in p);
    pixels = λ t few. (row_of pixels give t few).count;
  }

  pub image_written : (at : ℕ) (before now : Option (List ℕ)) → IsDivided p.shape p.tile → IsBitpix p.bitpix → AreTileLengths (lengths_of p.shape) (lengths_of p.tile) →
      AreWrittenTiles file h p at (range_with_len 0 (tiles_in p)) before now → HoldsPixels file h at before now
  image_written at before now divided size lengths done =
      let are = are_tiles done.pixels done.count done.rows in
      record {
        array = array_of done.pixels;
        rows = record {
          lengths = lengths_same done.pixels;
          whole = joined_array (lengths_of p.shape) (lengths_of p.tile) done.pixels;
          tiles = λ t few. subst (RowStandsFor file h t) (sym (has_tiles (lengths_of p.shape) (lengths_of p.tile) done.pixels t lengths are few)) (row_of done.pixels done.rows t few);
        };
        contents = done.contents ∙ whole p at done.pixels before divided size are;
      }

-- with all tiles the image was written
pub all_written : JoinedIsArray → JoinedHasTheTiles → TilesMakeTheBytes → (held : Option (List ℕ)) (h : Header) (image : PackedImage) (at n : ℕ) (before now : Option (List ℕ)) → IfSome held (λ file. IsSaid file h image) →
    n ≡ tiles_in image.plan → IsDivided image.plan.shape image.plan.tile → IsBitpix image.plan.bitpix → AreTileLengths (lengths_of image.plan.shape) (lengths_of image.plan.tile) →
    IfSome held (λ file. AreWrittenTiles file h image.plan at (range_with_len 0 n) before now) → IfSome held (λ file. HoldsPixels file h at before now)
all_written array has whole None h image at n before now said all divided size lengths done = tt
all_written array has whole (Some file) h image at n before now said all divided size lengths done =
    let plan : image.plan ≡ plan_in file h = sym said.plan in
    image_written array has whole file h at before now
    (subst (λ (p : Plan). IsDivided p.shape p.tile) plan divided)
    (subst (λ (p : Plan). IsBitpix p.bitpix) plan size)
    (subst (λ (p : Plan). AreTileLengths (lengths_of p.shape) (lengths_of p.tile)) plan lengths)
    (subst (λ (p : Plan). AreWrittenTiles file h p at (range_with_len 0 (tiles_in p)) before now) plan
    (subst (λ k. AreWrittenTiles file h image.plan at (range_with_len 0 k) before now) all done))
