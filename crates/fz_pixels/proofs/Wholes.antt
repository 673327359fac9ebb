-- The tiles of an image, and the picks of a cutout, make its bytes in one piece.
use Rattle.std.proofs.Common.{◌≡◌, ℕ, zero, suc, ◌*◌, ◌/◌, ◌<◌, ◌≤◌, inl, inr, ℤ, pos, List, [], ◌∷◌, ◌++◌, length, map, take, drop, get_or, unsigned_abs, Option, refl, sym, ap, subst, ◌∙◌, arith}
use Rattle.std.specs.List.{range_with_len}
use Rattle.std.proofs.lemmas.List.{append-nil}
use Rattle.std.proofs.lemmas.List.FromFn.{get_or-range_with_len, length-range_with_len}
use Rattle.std.proofs.Math.Nat.{mul-le-mul_left, mul-one, mul-suc}
use Rattle.std.proofs.Math.Seq.{drop-append_seam, take-append_seam}
use Rattle.fz_base.specs.Sink.{written}
use Rattle.fz_grid.specs.Arrays.{NumberArray, product}
use Rattle.fz_grid.specs.Division.{AreTileLengths, tile_places}
use Rattle.fz_grid.specs.Grid.{tile, tile_count}
use Rattle.fz_grid.specs.Laws.{BoxesHaveTheirPixels, JoinedHasTheTiles, JoinedIsArray, NumbersAreInOneTile, TilesAreAtTheirPlaces, TilesLieInTheArray}
use Rattle.fz_grid.specs.Region.{lengths_of}
use Rattle.fz_grid.specs.Sieve.{sieve_lengths}
use Rattle.fz_grid.specs.Whole.{AreTiles, joined}
use Rattle.fz_grid.specs.declared.sieve.Sieve.{Sieve}
use Rattle.fz_grid.specs.Cutout.{Sifts, numbers_at, picked_numbers, picks_in_cutout, picks_in_tile}
use Rattle.fz_grid.specs.CutoutLaws.{CutoutsAreWhole, PartsLieInTheCutout, PlacesArePickedOnce, TilesGiveTheirPicks}
use Rattle.fz_tile.specs.Laws.{HasPlainLen, SlicesBytes}
use Rattle.fz_tile.specs.Pixels.{IsBitpix}
use Rattle.fz_tile.specs.Plain.{pixel_bytes, plain_bytes}
use Rattle.fz_head.specs.declared.plan.Plan.{Plan}
use Rattle.fz_files.specs.FirstFault.{picked_tiles_of}
use Rattle.fz_files.specs.Packed.{pixel_bits, tiles_in}
use Rattle.fz_pixels.specs.Scattered.{part_written, parts_written, tile_written, tiles_written}
use Rattle.fz_pixels.proofs.Covering.{AllFit, Fits, FitsAt, WriteLaws, all_written, covered, fit_all, fit_map, piece}
use Rattle.fz_pixels.proofs.Places.{AllBelow, picks_cover, tiles_cover}

-- ---- the bytes of pixels

pub bits_of : (b : ℤ) → IsBitpix b → IsBitpix (pos (unsigned_abs b))
bits_of b (inl is) = inl (ap (λ z. pos (unsigned_abs z)) is)
bits_of b (inr (inl is)) = inr (inl (ap (λ z. pos (unsigned_abs z)) is))
bits_of b (inr (inr (inl is))) = inr (inr (inl (ap (λ z. pos (unsigned_abs z)) is)))
bits_of b (inr (inr (inr is))) = inr (inr (inr (ap (λ z. pos (unsigned_abs z)) is)))

pub some_bytes : (b : ℤ) → IsBitpix b → 0 < unsigned_abs b / 8
some_bytes b (inl is) = subst (λ z. 0 < unsigned_abs z / 8) (sym is) (omega arith)
some_bytes b (inr (inl is)) = subst (λ z. 0 < unsigned_abs z / 8) (sym is) (omega arith)
some_bytes b (inr (inr (inl is))) = subst (λ z. 0 < unsigned_abs z / 8) (sym is) (omega arith)
some_bytes b (inr (inr (inr is))) = subst (λ z. 0 < unsigned_abs z / 8) (sym is) (omega arith)

one_len : HasPlainLen → (bits : ℕ) (x : ℤ) → IsBitpix (pos bits) → length (pixel_bytes bits x) ≡ bits / 8
one_len len bits x size =
    let one : length (pixel_bytes bits x ++ []) ≡ bits / 8 * 1 = len bits (x ∷ []) size in
    sym (ap length (append-nil (pixel_bytes bits x))) ∙ one ∙ mul-one (bits / 8)

one_number : (p : ℕ) (numbers : List ℤ) → p < length numbers → take 1 (drop p numbers) ≡ get_or numbers p (pos 0) ∷ []
one_number p [] low = absurd (omega (arith, low))
one_number zero (x ∷ xs) low = refl
one_number (suc p) (x ∷ xs) low = one_number p xs (omega (arith, low))

-- the bytes of one pixel stand in those of all
one_piece : SlicesBytes → (bits p : ℕ) (numbers : List ℤ) → IsBitpix (pos bits) → p < length numbers → pixel_bytes bits (get_or numbers p (pos 0)) ≡ piece (bits / 8) p (plain_bytes bits numbers)
one_piece slices bits p numbers size low =
    sym (append-nil (pixel_bytes bits (get_or numbers p (pos 0)))) ∙ sym (ap (plain_bytes bits) (one_number p numbers low))
    ∙ slices bits p 1 numbers size
    ∙ ap (λ n. take n (drop (bits / 8 * p) (plain_bytes bits numbers))) (mul-one (bits / 8))

-- the bytes of the numbers at some places are pieces of the bytes of all
pub numbers_fit : HasPlainLen → SlicesBytes → (bits : ℕ) (numbers : List ℤ) (ps : List ℕ) → IsBitpix (pos bits) → AllBelow (length numbers) ps
    → Fits (bits / 8) (plain_bytes bits numbers) ps (plain_bytes bits (numbers_at numbers ps))
numbers_fit len slices bits numbers [] size low = tt
numbers_fit len slices bits numbers (p ∷ ps) size low =
    let w : ℕ = bits / 8 in
    let x : ℤ = get_or numbers p (pos 0) in
    let rest : List ℕ = plain_bytes bits (numbers_at numbers ps) in
    let here : p < length numbers = low 0 (omega arith) in
    let of_one : length (pixel_bytes bits x) ≡ w = one_len len bits x size in
    let of_all : length (plain_bytes bits numbers) ≡ w * length numbers = len bits numbers size in
    let end : w * suc p ≤ w * length numbers = mul-le-mul_left w (omega (arith, here)) in
    let front : take w (pixel_bytes bits x ++ rest) ≡ pixel_bytes bits x = ap (λ n. take n (pixel_bytes bits x ++ rest)) (sym of_one) ∙ take-append_seam (pixel_bytes bits x) rest in
    let back : drop w (pixel_bytes bits x ++ rest) ≡ rest = ap (λ n. drop n (pixel_bytes bits x ++ rest)) (sym of_one) ∙ drop-append_seam (pixel_bytes bits x) rest in
    let first : FitsAt w p (plain_bytes bits numbers) (pixel_bytes bits x ++ rest) = record {
      inside = omega (arith, end, mul-suc w p, of_all);
      bytes_are = front ∙ one_piece slices bits p numbers size here;
    } in
    (first, subst (λ l. Fits w (plain_bytes bits numbers) ps l) (sym back) (numbers_fit len slices bits numbers ps size (λ k near. low (suc k) (omega (arith, near)))))

-- ---- all tiles of an image

tiles_are : (p : Plan) (at : ℕ) (ts : List ℕ) (pixels : List (List ℤ)) (c : Option (List ℕ)) → tiles_written p at ts pixels c
    ≡ all_written (pixel_bits p / 8) at (tile_places (lengths_of p.shape) (lengths_of p.tile)) (λ t xs. plain_bytes (pixel_bits p) xs) ts pixels c
tiles_are p at [] pixels c = refl
tiles_are p at (t ∷ ts) [] c = refl
tiles_are p at (t ∷ ts) (xs ∷ pixels) c = tiles_are p at ts pixels (tile_written p at t xs c)

pub joined_lengths : (array tile : List ℕ) (tiles : List (List ℤ)) → (joined array tile tiles).lengths ≡ array
unfolding joined
joined_lengths array tile tiles = refl

module _ (inside : TilesLieInTheArray) (writes : WriteLaws) (placed : TilesAreAtTheirPlaces) (is_array : JoinedIsArray) (has : JoinedHasTheTiles) (len : HasPlainLen) (slices : SlicesBytes)
    (p : Plan) (pixels : List (List ℤ)) (lengths : AreTileLengths (lengths_of p.shape) (lengths_of p.tile)) (size : IsBitpix p.bitpix) (tiles : AreTiles (lengths_of p.shape) (lengths_of p.tile) pixels) where
  abbrev array : List ℕ
  array = lengths_of p.shape

  abbrev tile_is : List ℕ
  tile_is = lengths_of p.tile

  abbrev image : NumberArray
  image = joined array tile_is pixels

  abbrev whole : List ℕ
  whole = plain_bytes (pixel_bits p) image.numbers

  abbrev ts : List ℕ
  ts = range_with_len 0 (tile_count array tile_is)

  as_many : length image.numbers ≡ product array
  as_many = is_array array tile_is pixels ∙ ap product (joined_lengths array tile_is pixels)

  of_whole : length whole ≡ pixel_bits p / 8 * product array
  of_whole = len (pixel_bits p) image.numbers (bits_of p.bitpix size) ∙ ap (λ m. pixel_bits p / 8 * m) as_many

  pixels_are : (t : ℕ) → t < tile_count array tile_is → numbers_at image.numbers (tile_places array tile_is t) ≡ get_or pixels t []
  pixels_are t near =
      ap (λ l. numbers_at image.numbers (tile_places l tile_is t)) (sym (joined_lengths array tile_is pixels)) ∙ sym (placed image tile_is t) ∙ has array tile_is pixels t lengths tiles near

  below : (t : ℕ) → AllBelow (length image.numbers) (tile_places array tile_is t)
  below t k low = let here : get_or (tile_places array tile_is t) k 0 < product array = inside array tile_is t k lengths low in omega (arith, here, as_many)

  fits : (t : ℕ) → t < tile_count array tile_is → Fits (pixel_bits p / 8) whole (tile_places array tile_is t) (plain_bytes (pixel_bits p) (get_or pixels t []))
  fits t near =
      subst (λ (xs : List ℤ). Fits (pixel_bits p / 8) whole (tile_places array tile_is t) (plain_bytes (pixel_bits p) xs)) (pixels_are t near)
      (numbers_fit len slices (pixel_bits p) image.numbers (tile_places array tile_is t) (bits_of p.bitpix size) (below t))

  each : (k : ℕ) → k < length ts → Fits (pixel_bits p / 8) whole (tile_places array tile_is (get_or ts k 0)) (plain_bytes (pixel_bits p) (get_or pixels k []))
  each k low =
      let near : k < tile_count array tile_is = omega (arith, low, length-range_with_len 0 (tile_count array tile_is)) in
      let here : get_or ts k 0 ≡ k = get_or-range_with_len 0 (tile_count array tile_is) k 0 near ∙ omega arith in
      subst (λ t. Fits (pixel_bits p / 8) whole (tile_places array tile_is t) (plain_bytes (pixel_bits p) (get_or pixels k []))) (sym here) (fits k near)

  pub image_whole : NumbersAreInOneTile → (at : ℕ) (c : Option (List ℕ))
      → tiles_written p at (range_with_len 0 (tiles_in p)) pixels c ≡ written at (plain_bytes (pixel_bits p) (joined (lengths_of p.shape) (lengths_of p.tile) pixels).numbers) c
  image_whole one at c =
      let same : length pixels ≡ length ts = tiles.count ∙ sym (length-range_with_len 0 (tile_count array tile_is)) in
      let fit : AllFit (pixel_bits p / 8) whole (tile_places array tile_is) (λ t xs. plain_bytes (pixel_bits p) xs) ts pixels =
      fit_all (pixel_bits p / 8) whole (tile_places array tile_is) (λ t xs. plain_bytes (pixel_bits p) xs) ts pixels same each in
      tiles_are p at ts pixels c
      ∙ covered writes at (pixel_bits p / 8) (product array) whole (tile_places array tile_is) (λ t xs. plain_bytes (pixel_bits p) xs) ts pixels c (some_bytes p.bitpix size) of_whole fit
      (tiles_cover one array tile_is lengths)

-- ---- the picks of all tiles that hold one

parts_are : (p : Plan) (sieve : Sieve) (at : ℕ) (ts : List ℕ) (pixels : List (List ℤ)) (c : Option (List ℕ)) → parts_written p sieve at ts pixels c
    ≡ all_written (pixel_bits p / 8) at (picks_in_cutout (lengths_of p.shape) (lengths_of p.tile) sieve)
    (λ t xs. plain_bytes (pixel_bits p) (numbers_at xs (picks_in_tile (lengths_of p.shape) (lengths_of p.tile) sieve t))) ts pixels c
parts_are p sieve at [] pixels c = refl
parts_are p sieve at (t ∷ later) [] c = refl
parts_are p sieve at (t ∷ later) (xs ∷ pixels) c = parts_are p sieve at later pixels (part_written p sieve at t xs c)

module _ (inside : PartsLieInTheCutout) (pixels : BoxesHaveTheirPixels) (writes : WriteLaws) (count : CutoutsAreWhole) (gives : TilesGiveTheirPicks) (len : HasPlainLen) (slices : SlicesBytes)
    (p : Plan) (sieve : Sieve) (a : NumberArray) (lengths : AreTileLengths (lengths_of p.shape) (lengths_of p.tile)) (size : IsBitpix p.bitpix) (sifts : Sifts (lengths_of p.shape) sieve)
    (same : a.lengths ≡ lengths_of p.shape) where
  abbrev array_is : List ℕ
  array_is = lengths_of p.shape

  abbrev tile_of : List ℕ
  tile_of = lengths_of p.tile

  abbrev cutout : List ℤ
  cutout = picked_numbers a sieve

  abbrev cut_bytes : List ℕ
  cut_bytes = plain_bytes (pixel_bits p) cutout

  abbrev bytes_of : ℕ → List ℤ → List ℕ
  bytes_of t xs = plain_bytes (pixel_bits p) (numbers_at xs (picks_in_tile array_is tile_of sieve t))

  of_cut : length cut_bytes ≡ pixel_bits p / 8 * product (sieve_lengths sieve)
  of_cut = len (pixel_bits p) cutout (bits_of p.bitpix size) ∙ ap (λ m. pixel_bits p / 8 * m) (count a sieve)

  picks_are : (t : ℕ) → numbers_at cutout (picks_in_cutout array_is tile_of sieve t) ≡ numbers_at (tile a tile_of t) (picks_in_tile array_is tile_of sieve t)
  picks_are t =
      ap (λ l. numbers_at cutout (picks_in_cutout l tile_of sieve t)) (sym same)
      ∙ gives a tile_of sieve t (subst (λ l. AreTileLengths l tile_of) (sym same) lengths) (subst (λ l. Sifts l sieve) (sym same) sifts)
      ∙ ap (λ l. numbers_at (tile a tile_of t) (picks_in_tile l tile_of sieve t)) same

  below_cut : (t : ℕ) → AllBelow (length cutout) (picks_in_cutout array_is tile_of sieve t)
  below_cut t k low =
      let here : get_or (picks_in_cutout array_is tile_of sieve t) k 0 < product (sieve_lengths sieve) = inside array_is tile_of sieve t k lengths sifts low in
      let as_many : length cutout ≡ product (sieve_lengths sieve) = count a sieve in
      omega (arith, here, as_many)

  fits_cut : (t : ℕ) → Fits (pixel_bits p / 8) cut_bytes (picks_in_cutout array_is tile_of sieve t) (bytes_of t (tile a tile_of t))
  fits_cut t =
      subst (λ (xs : List ℤ). Fits (pixel_bits p / 8) cut_bytes (picks_in_cutout array_is tile_of sieve t) (plain_bytes (pixel_bits p) xs)) (picks_are t)
      (numbers_fit len slices (pixel_bits p) cutout (picks_in_cutout array_is tile_of sieve t) (bits_of p.bitpix size) (below_cut t))

  pub cutout_whole : PlacesArePickedOnce → (at : ℕ) (c : Option (List ℕ)) → parts_written p sieve at (picked_tiles_of p sieve) (map (tile a (lengths_of p.tile)) (picked_tiles_of p sieve)) c
      ≡ written at (plain_bytes (pixel_bits p) (picked_numbers a sieve)) c
  cutout_whole once at c =
      let picked : List ℕ = picked_tiles_of p sieve in
      let fit : AllFit (pixel_bits p / 8) cut_bytes (picks_in_cutout array_is tile_of sieve) bytes_of picked (map (tile a tile_of) picked) =
      fit_map (pixel_bits p / 8) cut_bytes (picks_in_cutout array_is tile_of sieve) bytes_of (tile a tile_of) picked fits_cut in
      parts_are p sieve at picked (map (tile a tile_of) picked) c
      ∙ covered writes at (pixel_bits p / 8) (product (sieve_lengths sieve)) cut_bytes (picks_in_cutout array_is tile_of sieve) bytes_of picked (map (tile a tile_of) picked) c (some_bytes p.bitpix size) of_cut fit
      (picks_cover pixels once array_is tile_of sieve lengths sifts)
