-- The pixels of all tiles that have one in a box are those of the box.
use Rattle.std.proofs.Common.{◌≡◌, ◌⊎◌, Bool, true, false, cond, ◌&&◌, inl, inr, ℕ, zero, suc, ◌+◌, ◌*◌, ◌<◌, ◌≤◌, ℤ, pos, List, [], ◌∷◌, length, get_or, map, replicate, Ok, unsigned_abs, refl, sym, ap, ◌∙◌, subst, arith}
use Rattle.std.specs.List.{filter, range_with_len}
use Rattle.std.specs.Prelude.{All, Contains, Result, slice_index, slice_index_or}
use Rattle.std.proofs.lemmas.Bool.{cases_eq, cases_lt, lt-ltb}
use Rattle.std.proofs.lemmas.List.{get_or-map, get_or_default, length-map, length-replicate}
use Rattle.std.proofs.lemmas.List.FromFn.{get_or-map-range_with_len, length-map-range_with_len}
use Rattle.fz_base.specs.declared.fault.Fault.{Fault}
use Rattle.fz_bits.specs.Numbers.{IsNumber}
use Rattle.fz_grid.specs.Arrays.{NumberArray, product}
use Rattle.fz_grid.specs.Cutout.{Sifts, numbers_at, part_lengths, picked_numbers, picks_in_cutout, picks_in_tile}
use Rattle.fz_grid.specs.CutoutLaws.{CutoutsAreWhole, PartsLieInTheCutout, PlacesArePickedOnce, TilesGiveTheirPicks}
use Rattle.fz_grid.specs.Division.{AreTileLengths}
use Rattle.fz_grid.specs.Grid.{tile, tile_corner, tile_count}
use Rattle.fz_grid.specs.Laws.{BoxesHaveTheirPixels, JoinedHasTheTiles, JoinedIsArray}
use Rattle.fz_grid.specs.Overlap.{has_pixel}
use Rattle.fz_grid.specs.Region.{lengths_of}
use Rattle.fz_grid.specs.Sieve.{all_before, sieve_hi, sieve_lengths, sieve_lo, sieve_step}
use Rattle.fz_grid.specs.Whole.{AreTiles, joined}
use Rattle.fz_grid.specs.declared.sieve.Sieve.{Sieve}
use Rattle.fz_table.specs.declared.record.Record.{Record}
use Rattle.fz_tile.specs.Codecs.{CanRead}
use Rattle.fz_tile.specs.Pixels.{IsBitpix, place_count, places}
use Rattle.fz_tile.specs.Record.{IsRecord}
use Rattle.fz_tile.specs.declared.codec.Codec.{Codec}
use Rattle.fz_tile.specs.declared.coded.Place2.{Place2}
use Rattle.fz_head.specs.declared.plan.Plan.{Plan}
use Rattle.fz_checks.specs.declared.job_checks.PackedImage.{PackedImage}
use Rattle.fz_flat.specs.Boxes.{MeansTile, bytes_of, numbers_in, picked_in}
use Rattle.fz_flat.specs.Cutting.{AreCut, in_box, in_tile, width_of}
use Rattle.fz_flat.specs.Tiles.{pixel_bits, pixels_of, place_in, tiles_in}
use Rattle.fz_flat.proofs.CutLemmas.{AreNearer, FitsAll, Stands}
use Rattle.fz_flat.proofs.PixelLemmas.{pixels_same, places_long, same_pixel}
use Rattle.fz_flat.proofs.PlacedLemmas.{is_later, split_first, width_times}

-- ---- each place of a box is that of a pixel of a tile

some_pixel : (rs : List ℕ) (p : ℕ) → p < product rs → has_pixel rs ≡ true
some_pixel [] p below = refl
some_pixel (zero ∷ rs) p below = absurd (omega arith)
some_pixel (suc r ∷ rs) p below = ap (λ b. b && has_pixel rs) (lt-ltb 0 (suc r) (omega arith)) ∙ some_pixel rs 0 (factor (suc r) (product rs) below)
  where
    factor : (n m : ℕ) → p < n * m → 0 < m
    factor n zero h = absurd (omega arith)
    factor n (suc m) h = omega arith

kept_here : (test : ℕ → Bool) (a : ℕ) (rest : List ℕ) (t : ℕ) → a ≡ t → test t ≡ true → Contains (cond (test a) (a ∷ rest) rest) t
kept_here test a rest t same passes =
    let is : test a ≡ true = ap test same ∙ passes in
    subst (λ b. Contains (cond b (a ∷ rest) rest) t) (sym is) (0, omega arith, same)

kept_later : (b : Bool) (a : ℕ) (rest : List ℕ) (t : ℕ) → Contains rest t → Contains (cond b (a ∷ rest) rest) t
kept_later false a rest t has = has
kept_later true a rest t has = is_later a rest t has

-- a number that passes the test is one of those that do
kept : (test : ℕ → Bool) (a n t : ℕ) → a ≤ t → t < a + n → test t ≡ true → Contains (filter test (range_with_len a n)) t
kept test a zero t from to passes = absurd (omega (arith, from, to))
kept test a (suc n) t from to passes = elim (cases_lt a t) as (λ _. Contains (filter test (range_with_len a (suc n))) t) [
  | inl above ↦ kept_later (test a) a (filter test (range_with_len (a + 1) n)) t (kept test (a + 1) n t (omega (arith, above)) (omega (arith, to)) passes)
  | inr not_above ↦ kept_here test a (filter test (range_with_len (a + 1) n)) t (omega (arith, not_above, from)) passes
]

-- a tile with a pixel at this place of the box, and which of its pixels it is
pub record HasPlace (p : Plan) (sieve : Sieve) (i : ℕ) : Type 0 where
  pub t : ℕ
  pub picked : Contains (picked_in p sieve) t
  pub k : ℕ
  pub low : k < length (in_box p sieve t)
  pub here : slice_index (in_box p sieve t) k ≡ i

has_place : BoxesHaveTheirPixels → PlacesArePickedOnce → (p : Plan) (sieve : Sieve) → AreTileLengths (lengths_of p.shape) (lengths_of p.tile) → Sifts (lengths_of p.shape) sieve
    → (i : ℕ) → i < product (sieve_lengths sieve) → HasPlace p sieve i
has_place pixels once p sieve tiles sifts i low =
    let array : List ℕ = lengths_of p.shape in
    let tile_is : List ℕ = lengths_of p.tile in
    let found = once array tile_is sieve i tiles sifts low in
    let t : ℕ = found.tile_number in
    let counts : List ℕ = part_lengths array tile_is sieve t in
    let long : length (picks_in_cutout array tile_is sieve t) ≡ product counts =
    pixels (sieve_lengths sieve) (all_before (sieve_lo sieve) (sieve_hi sieve) (sieve_step sieve) (tile_corner array tile_is t)) counts in
    let some : has_pixel counts ≡ true = some_pixel counts found.pick_number (omega (arith, long, found.found.pick_in)) in
    record {
      t = t;
      picked = kept (λ u. has_pixel (part_lengths array tile_is sieve u)) 0 (tile_count array tile_is) t (omega arith) (omega (arith, found.found.tile_in)) some;
      k = found.pick_number;
      low = found.found.pick_in;
      here = found.found.here;
    }

-- ---- numbers at places

numbers_same : (xs ys : List ℤ) (ps qs : List ℕ) → numbers_at xs ps ≡ numbers_at ys qs → length qs ≡ length ps
numbers_same xs ys ps qs e =
    sym (length-map qs (λ q. slice_index_or ys q (pos 0))) ∙ ap length (sym e) ∙ length-map ps (λ p. slice_index_or xs p (pos 0))

number_same : (xs ys : List ℤ) (ps qs : List ℕ) (k : ℕ) → numbers_at xs ps ≡ numbers_at ys qs → k < length ps → get_or xs (slice_index ps k) (pos 0) ≡ get_or ys (slice_index qs k) (pos 0)
number_same xs ys ps qs k e low =
    let near : k < length qs = omega (arith, low, numbers_same xs ys ps qs e) in
    sym (get_or-map (λ p. slice_index_or xs p (pos 0)) ps k 0 (pos 0) low) ∙ ap (λ l. get_or l k (pos 0)) e ∙ get_or-map (λ q. slice_index_or ys q (pos 0)) qs k 0 (pos 0) near

-- ---- a record stands for one list of pixels

abbrev pub OneRecord : Type 0
OneRecord = (codec : Codec) (bitpix total : ℕ) (place : Place2) (read : List ℕ) (xs ys : List ℤ)
    → CanRead codec (pos bitpix) → length ys ≡ length xs → IsRecord codec bitpix place total read xs → IsRecord codec bitpix place total read ys → ys ≡ xs

bits_are : (b : ℤ) → IsBitpix b → pos (unsigned_abs b) ≡ b
bits_are b (inl is) = subst (λ (y : ℤ). pos (unsigned_abs y) ≡ y) (sym is) refl
bits_are b (inr (inl is)) = subst (λ (y : ℤ). pos (unsigned_abs y) ≡ y) (sym is) refl
bits_are b (inr (inr (inl is))) = subst (λ (y : ℤ). pos (unsigned_abs y) ≡ y) (sym is) refl
bits_are b (inr (inr (inr is))) = subst (λ (y : ℤ). pos (unsigned_abs y) ≡ y) (sym is) refl

same_found : (f g : Record) → ◌≡◌ {A = Result Record Fault} (Ok f) (Ok g) → g ≡ f
same_found f g e = cc

module _ (image : PackedImage) (sieve : Sieve) (from : ℕ) (rows : List ℕ) (at : ℕ) (codes : List ℕ) (one : OneRecord) (can : CanRead image.plan.codec image.plan.bitpix) where
  abbrev p : Plan
  p = image.plan

  abbrev Means : ℕ → List ℤ → Type 0
  Means t xs = MeansTile image from rows at codes t xs

  same_means : (t : ℕ) (xs ys : List ℤ) → Means t xs → Means t ys → ys ≡ xs
  same_means t xs ys first other =
      let found : other.found ≡ first.found = same_found first.found other.found (sym first.says.says ∙ other.says.says) in
      one p.codec (pixel_bits p) first.found.total (place_in first.found.column) (bytes_of at codes first.found) xs ys
      (subst (CanRead p.codec) (sym (bits_are p.bitpix can.size)) can) (other.count ∙ sym first.count) first.means
      (subst (λ (f : Record). IsRecord p.codec (pixel_bits p) (place_in f.column) f.total (bytes_of at codes f) ys) found other.means)

  -- ---- the array

  pub is_in : (ts : List ℕ) (t : ℕ) → Contains ts t ⊎ (Contains ts t → ⊥)
  is_in [] t = inr (λ (k, low, is). omega (arith, low))
  is_in (u ∷ us) t = elim (cases_eq u t) as (λ _. Contains (u ∷ us) t ⊎ (Contains (u ∷ us) t → ⊥)) [
    | inl same ↦ inl (0, omega arith, same)
    | inr other ↦ elim (is_in us t) as (λ _. Contains (u ∷ us) t ⊎ (Contains (u ∷ us) t → ⊥)) [
      | inl later ↦ inl (is_later u us t later)
      | inr none ↦ inr (λ here. elim (split_first u us t here) as (λ _. ⊥) [ inl same ↦ other same | inr later ↦ none later ])
    ]
  ]

  module _ (stand : (t : ℕ) → Contains (picked_in p sieve) t → Stands image sieve from rows at codes t) where
    abbrev pub pixels_if : (t : ℕ) → Contains (picked_in p sieve) t ⊎ (Contains (picked_in p sieve) t → ⊥) → List ℤ
    pixels_if t (inl here) = (stand t here).pixels
    pixels_if t (inr none) = replicate (pixels_of p t) (pos 0)

    count_if : (t : ℕ) (d : Contains (picked_in p sieve) t ⊎ (Contains (picked_in p sieve) t → ⊥)) → length (pixels_if t d) ≡ pixels_of p t
    count_if t (inl here) = (stand t here).means.count
    count_if t (inr none) = length-replicate {A = ℤ} (pixels_of p t) (pos 0)

    stand_if : (t : ℕ) (d : Contains (picked_in p sieve) t ⊎ (Contains (picked_in p sieve) t → ⊥)) → Contains (picked_in p sieve) t
        → Means t (pixels_if t d) × ((k : ℕ) → k < length (in_tile p sieve t) → slice_index (in_tile p sieve t) k < length (pixels_if t d))
    stand_if t (inl here) is = ((stand t here).means, (stand t here).inside)
    stand_if t (inr none) is = absurd (none is)

    abbrev pub pixels_at : ℕ → List ℤ
    pixels_at t = pixels_if t (is_in (picked_in p sieve) t)

    abbrev tiles : List (List ℤ)
    tiles = map pixels_at (range_with_len 0 (tiles_in p))

    abbrev array : NumberArray
    array = joined (lengths_of p.shape) (lengths_of p.tile) tiles

    lengths_are : array.lengths ≡ lengths_of p.shape
    unfolding joined
    lengths_are = refl

    tile_found : (t : ℕ) → t < tiles_in p → slice_index_or tiles t [] ≡ pixels_at t
    tile_found t low = get_or-map-range_with_len pixels_at 0 (tiles_in p) t t [] low (omega arith)

    are_tiles : AreTiles (lengths_of p.shape) (lengths_of p.tile) tiles
    are_tiles = record {
      count = length-map-range_with_len pixels_at 0 (tiles_in p);
      pixels = λ t low. ap length (tile_found t low) ∙ count_if t (is_in (picked_in p sieve) t);
    }

    module _ (has_tiles : JoinedHasTheTiles) (lengths : AreTileLengths (lengths_of p.shape) (lengths_of p.tile)) (known : (t : ℕ) → Contains (picked_in p sieve) t → t < tiles_in p) where
      -- the tiles of the array are those that the records stand for
      tile_stands : (t : ℕ) → Contains (picked_in p sieve) t → Means t (tile array (lengths_of p.tile) t)
          × ((k : ℕ) → k < length (in_tile p sieve t) → slice_index (in_tile p sieve t) k < length (tile array (lengths_of p.tile) t))
      tile_stands t here =
          let is : tile array (lengths_of p.tile) t ≡ pixels_at t = has_tiles (lengths_of p.shape) (lengths_of p.tile) tiles t lengths are_tiles (known t here) ∙ tile_found t (known t here) in
          subst (λ (xs : List ℤ). Means t xs × ((k : ℕ) → k < length (in_tile p sieve t) → slice_index (in_tile p sieve t) k < length xs)) (sym is) (stand_if t (is_in (picked_in p sieve) t) here)

      module _ (count : CutoutsAreWhole) (gives : TilesGiveTheirPicks) (inside : PartsLieInTheCutout) (sifts : Sifts (lengths_of p.shape) sieve) where
        abbrev cutout : List ℤ
        cutout = picked_numbers array sieve

        abbrev whole : List ℤ
        whole = places (pixel_bits p) cutout

        picks_are : (t : ℕ) → numbers_at cutout (in_box p sieve t) ≡ numbers_at (tile array (lengths_of p.tile) t) (in_tile p sieve t)
        picks_are t =
            ap (λ l. numbers_at cutout (picks_in_cutout l (lengths_of p.tile) sieve t)) (sym lengths_are)
            ∙ gives array (lengths_of p.tile) sieve t (subst (λ l. AreTileLengths l (lengths_of p.tile)) (sym lengths_are) lengths) (subst (λ l. Sifts l sieve) (sym lengths_are) sifts)
            ∙ ap (λ l. numbers_at (tile array (lengths_of p.tile) t) (picks_in_tile l (lengths_of p.tile) sieve t)) lengths_are

        -- the places of the box have the pixels of all tiles
        pub fits_all : FitsAll image sieve from rows at codes whole
        fits_all t here xs means within k low =
            let mine = tile_stands t here in
            let same : tile array (lengths_of p.tile) t ≡ xs = same_means t xs (tile array (lengths_of p.tile) t) means mine.0 in
            let e : numbers_at cutout (in_box p sieve t) ≡ numbers_at xs (in_tile p sieve t) = picks_are t ∙ ap (λ (l : List ℤ). numbers_at l (in_tile p sieve t)) same in
            let many : length (in_tile p sieve t) ≡ length (in_box p sieve t) = numbers_same cutout xs (in_box p sieve t) (in_tile p sieve t) e in
            let place : slice_index (in_box p sieve t) k < product (sieve_lengths sieve) = inside (lengths_of p.shape) (lengths_of p.tile) sieve t k lengths sifts low in
            let all : length cutout ≡ product (sieve_lengths sieve) = count array sieve in
            same_pixel (pixel_bits p) (slice_index (in_box p sieve t) k) (slice_index (in_tile p sieve t) k) cutout xs (omega (arith, place, all)) (within k (omega (arith, low, many)))
            (number_same cutout xs (in_box p sieve t) (in_tile p sieve t) k e low)

        module _ (boxes : BoxesHaveTheirPixels) (once : PlacesArePickedOnce) where
          -- so the numbers are the places of the box
          out_is : (out before : List ℤ) → length out ≡ numbers_in p sieve → AreNearer image sieve from rows at codes whole before out (picked_in p sieve) → out ≡ whole
          out_is out before long near =
              let n : ℕ = product (sieve_lengths sieve) in
              let all : length cutout ≡ n = count array sieve in
              pixels_same (width_of p) n out whole (long ∙ width_times (pixel_bits p) n) (places_long (pixel_bits p) cutout ∙ ap (place_count (pixel_bits p)) all ∙ width_times (pixel_bits p) n) (λ i low.
              let found = has_place boxes once p sieve lengths sifts i low in
              near.there found.t found.picked i (subst (λ (j : ℕ). Contains (in_box p sieve found.t) j) found.here (found.k, found.low, get_or_default (in_box p sieve found.t) found.k _ 0 found.low)))

          -- each of its pixels is one of a tile
          all_pixels : (P : ℤ → Type 0) → ((t : ℕ) → Contains (picked_in p sieve) t → All P (tile array (lengths_of p.tile) t)) → All P cutout
          all_pixels P each i d low =
              let all : length cutout ≡ product (sieve_lengths sieve) = count array sieve in
              let found = has_place boxes once p sieve lengths sifts i (omega (arith, low, all)) in
              let t : ℕ = found.t in
              let xs : List ℤ = tile array (lengths_of p.tile) t in
              let many : length (in_tile p sieve t) ≡ length (in_box p sieve t) = numbers_same cutout xs (in_box p sieve t) (in_tile p sieve t) (picks_are t) in
              let near : slice_index (in_tile p sieve t) found.k < length xs = (tile_stands t found.picked).1 found.k (omega (arith, found.low, many)) in
              let same : get_or cutout (slice_index (in_box p sieve t) found.k) (pos 0) ≡ get_or xs (slice_index (in_tile p sieve t) found.k) (pos 0) = number_same cutout xs (in_box p sieve t) (in_tile p sieve t) found.k (picks_are t) found.low in
              let is : get_or cutout i d ≡ get_or xs (slice_index (in_tile p sieve t) found.k) (pos 0) = get_or_default cutout i d (pos 0) low ∙ ap (λ j. get_or cutout j (pos 0)) (sym found.here) ∙ same in
              subst P (sym is) (each t found.picked (slice_index (in_tile p sieve t) found.k) (pos 0) near)

          pub all_cut : JoinedIsArray → (out before : List ℤ) → length out ≡ numbers_in p sieve → AreNearer image sieve from rows at codes whole before out (picked_in p sieve)
              → AreCut image sieve from rows at codes out
          all_cut is_array out before long near = record {
            array = array;
            lengths = lengths_are;
            whole = is_array (lengths_of p.shape) (lengths_of p.tile) tiles;
            tiles = λ t here. (tile_stands t here).0;
            hold = record {
              pixels = all_pixels (IsNumber (pixel_bits p)) (λ t here. (tile_stands t here).0.means.pixels);
              are = out_is out before long near;
            };
          }
