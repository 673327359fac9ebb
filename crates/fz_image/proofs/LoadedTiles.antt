-- The tiles of an image, from the bytes of their pixels to the slots of a window.
use Rattle.std.proofs.Common.{◌≡◌, ℕ, zero, suc, ◌+◌, ◌-◌, ◌*◌, ◌/◌, ◌^◌, ◌<◌, ◌≤◌, ◌⊎◌, inl, inr, ℤ, pos, to_z, of_z, w32, ⊎_elim, List, [], ◌∷◌, ◌++◌, length, take, drop, map, slice_index_or, Option, Some, None, IfSome, refl, sym, ap, ◌∙◌, subst, arith}
use Rattle.std.specs.List.{range_with_len}
use Rattle.std.proofs.lemmas.List.{get_or_append_left, get_or_push, length-append, length-drop, length-take-le, take_at}
use Rattle.std.proofs.lemmas.List.FromFn.{get_or-map-range_with_len, length-map-range_with_len, map-range_with_len_more}
use Rattle.std.proofs.Math.Seq.{drop-append-add}
use Rattle.std.proofs.Math.Nat.{mul-le-mul_left, mul-suc, mul-zero}
use Rattle.fz_grid.specs.Arrays.{product}
use Rattle.fz_grid.specs.Division.{tile_places}
use Rattle.fz_grid.specs.Laws.{TilesAreAtTheirPlaces}
use Rattle.fz_grid.specs.Region.{lengths_of}
use Rattle.fz_base.specs.Source.{HoldsLength}
use Rattle.fz_tile.specs.Pixels.{HoldPixels, IsBitpix, place_count}
use Rattle.fz_tile.specs.Plain.{pixel_of, stored_pixels}
use Rattle.fz_files.specs.Packed.{pixel_bits}
use Rattle.fz_pool.specs.declared.task.Task.TheVariants.{Encode}
use Rattle.fz_pool.specs.declared.slot.Slot.{Slot}
use Rattle.fz_pool.specs.Laws.{ReadiesNext}
use Rattle.fz_pool.specs.Round.{HoldsTile}
use Rattle.fz_pool.specs.Window.{IsPut, Pool}
use Rattle.fz_image.specs.Layout.{IsLayout, pixel_bytes_of}
use Rattle.fz_image.specs.Tiles.{AreBelow, AreLoaded, HaveTheirPixels, HoldTile, IsLoaded, image_in, pixels_at_places, pixels_of, tile_in, tiles_from}
use Rattle.fz_image.specs.declared.layout.Layout.{Layout}

-- ---- pixels

-- two lists from functions of the place that give the same
map_range_same : {X : Type 0} (f g : ℕ → X) (a b n : ℕ) → ((i : ℕ) → i < n → f (a + i) ≡ g (b + i)) → map f (range_with_len a n) ≡ map g (range_with_len b n)
map_range_same f g a b zero same = refl
map_range_same f g a b (suc n) same =
    let at_a : a + zero ≡ a = omega arith in
    let at_b : b + zero ≡ b = omega arith in
    let here : f a ≡ g b = ap f (sym at_a) ∙ (same zero (omega arith) ∙ ap g at_b) in
    let later : (i : ℕ) → i < n → f (a + 1 + i) ≡ g (b + 1 + i) = λ i h.
    let next_a : a + 1 + i ≡ a + suc i = omega arith in
    let next_b : b + 1 + i ≡ b + suc i = omega arith in
    ap f next_a ∙ (same (suc i) (omega arith) ∙ ap g (sym next_b)) in
    ap (λ x. x ∷ map f (range_with_len (a + 1) n)) here ∙ ap (λ l. g b ∷ l) (map_range_same f g (a + 1) (b + 1) n later)

-- pixels of which the first is stored in a chunk of its own
chunk_more : (bits n : ℕ) (chunk rest : List ℕ) → length chunk ≡ bits / 8 → stored_pixels bits (suc n) (chunk ++ rest) ≡ pixel_of bits chunk ∷ stored_pixels bits n rest
chunk_more bits n chunk rest size =
    let w : ℕ = bits / 8 in
    let f : ℕ → ℤ = λ i. pixel_of bits (take w (drop (w * i) (chunk ++ rest))) in
    let h : ℕ → ℤ = λ i. pixel_of bits (take w (drop (w * i) rest)) in
    let first : f 0 ≡ pixel_of bits chunk = ap (λ k. pixel_of bits (take w (drop k (chunk ++ rest)))) (mul-zero w) ∙ ap (pixel_of bits) (take_at chunk rest w size) in
    let later : map f (range_with_len 1 n) ≡ map h (range_with_len 0 n) = map_range_same f h 1 0 n (λ i below.
    let next : 1 + i ≡ suc i = omega arith in
    let none : 0 + i ≡ i = omega arith in
    let place : w * suc i ≡ length chunk + w * i = omega (arith, mul-suc w i, size) in
    ap f next ∙ ap (λ k. pixel_of bits (take w (drop k (chunk ++ rest)))) place ∙ ap (λ l. pixel_of bits (take w l)) (drop-append-add chunk rest (w * i)) ∙ ap h (sym none)) in
    ap (λ x. x ∷ map f (range_with_len 1 n)) first ∙ ap (λ l. pixel_of bits chunk ∷ l) later

-- the pixels that are gathered from their places are those at these places
pub gathered : (bits most : ℕ) (bytes places : List ℕ) → bits / 8 * most ≤ length bytes → AreBelow most places →
    stored_pixels bits (length places) (pixels_at_places (bits / 8) bytes places) ≡ map (λ place. slice_index_or (stored_pixels bits most bytes) place (pos 0)) places
gathered bits most bytes [] room below = refl
gathered bits most bytes (p ∷ places) room below =
    let w : ℕ = bits / 8 in
    let chunk : List ℕ = take w (drop (w * p) bytes) in
    let end : w * suc p ≤ w * most = mul-le-mul_left w (omega (arith, below.0)) in
    let left : length (drop (w * p) bytes) ≡ length bytes - w * p = length-drop (w * p) bytes in
    let size : length chunk ≡ w = length-take-le w (drop (w * p) bytes) (omega (arith, end, mul-suc w p, left, room)) in
    let here : slice_index_or (stored_pixels bits most bytes) p (pos 0) ≡ pixel_of bits chunk =
    get_or-map-range_with_len (λ i. pixel_of bits (take w (drop (w * i) bytes))) 0 most p p (pos 0) below.0 (omega arith) in
    chunk_more bits (length places) chunk (pixels_at_places w bytes places) size
    ∙ ap (λ x. x ∷ stored_pixels bits (length places) (pixels_at_places w bytes places)) (sym here)
    ∙ ap (λ l. slice_index_or (stored_pixels bits most bytes) p (pos 0) ∷ l) (gathered bits most bytes places room below.1)

-- the pixels of a tile that were read
pub tile_told : (l : Layout) (file code places : List ℕ) (t n : ℕ) → IsLayout l → l.pixels_at + pixel_bytes_of l ≤ length file → TilesAreAtTheirPlaces → places ≡ tile_places (lengths_of l.plan.shape) (lengths_of l.plan.tile) t →
    length places ≡ n → AreBelow (product (lengths_of l.plan.shape)) places → code ≡ pixels_at_places l.pixel_len (drop l.pixels_at file) places → stored_pixels (pixel_bits l.plan) n code ≡ tile_in l file t
tile_told l file code places t n is room law at count below read =
    let bits : ℕ = pixel_bits l.plan in
    let bytes : List ℕ = drop l.pixels_at file in
    let left : length bytes ≡ length file - l.pixels_at = length-drop l.pixels_at file in
    let same : l.pixel_len * product (lengths_of l.plan.shape) ≡ bits / 8 * product (lengths_of l.plan.shape) = ap (λ w. w * product (lengths_of l.plan.shape)) is.pixel_len in
    ap (stored_pixels bits n) (read ∙ ap (λ w. pixels_at_places w bytes places) is.pixel_len)
    ∙ ap (λ k. stored_pixels bits k (pixels_at_places (bits / 8) bytes places)) (sym count)
    ∙ gathered bits (product (lengths_of l.plan.shape)) bytes places (omega (arith, left, same, room)) below
    ∙ ap (map (λ place. slice_index_or (stored_pixels bits (product (lengths_of l.plan.shape)) bytes) place (pos 0))) at
    ∙ sym (law (image_in l file) (lengths_of l.plan.tile) t)

-- ---- slots

-- the lists of one tile more have their pixels
pixels_more : (l : Layout) (t : ℕ) (tiles : List (List ℤ)) (xs : List ℤ) → HaveTheirPixels l t tiles → length xs ≡ pixels_of l (t + length tiles) → 1 ≤ length xs → length xs ≤ 2 ^ 26 → HaveTheirPixels l t (tiles ++ xs ∷ [])
pixels_more l t [] xs have count some most = let same : t + 0 ≡ t = omega arith in (count ∙ ap (pixels_of l) same, some, most, tt)
pixels_more l t (ys ∷ tiles) xs have count some most =
    let same : t + suc (length tiles) ≡ suc t + length tiles = omega arith in
    (have.0, have.1, have.2, pixels_more l (suc t) tiles xs have.3 (count ∙ ap (pixels_of l) same) some most)

-- a number below the next one is below this one, or this one
below_or : (k n : ℕ) → k < n + 1 → (k < n) ⊎ (k ≡ n)
below_or zero zero h = inr refl
below_or zero (suc n) h = inl (omega arith)
below_or (suc k) zero h = absurd (omega (arith, h))
below_or (suc k) (suc n) h = next (below_or k n (omega (arith, h)))
  where
    next : (k < n) ⊎ (k ≡ n) → (suc k < suc n) ⊎ (suc k ≡ suc n)
    next (inl low) = inl (omega (arith, low))
    next (inr same) = inr (ap suc same)

module _ (l : Layout) (held : Option (List ℕ)) (first i : ℕ) (old new : Pool) (x : Slot) (put : IsPut old i x new) (now : IsLoaded l held (first + i) x) (before : AreLoaded l held first i old) where
  abbrev more : List (List ℤ)
  more = before.tiles ++ now.pixels ∷ []

  hold_at : (k : ℕ) (d : Slot) (e : List ℤ) → (k < i) ⊎ (k ≡ i) → HoldsTile l.plan.codec (pixel_bits l.plan) (slice_index_or new.slots k d) (slice_index_or more k e)
  hold_at k d e (inl low) =
      let slot : slice_index_or new.slots k d ≡ slice_index_or old.slots k d = put.others k d (λ same. absurd (omega (arith, low, same))) in
      let tile : slice_index_or more k e ≡ slice_index_or before.tiles k e = get_or_append_left before.tiles (now.pixels ∷ []) e k (omega (arith, low, before.count_is)) in
      let was = before.hold k d e (omega (arith, low, before.count_is)) in
      subst (λ (y : Slot). HoldsTile l.plan.codec (pixel_bits l.plan) y (slice_index_or more k e)) (sym slot) (subst (HoldsTile l.plan.codec (pixel_bits l.plan) (slice_index_or old.slots k d)) (sym tile) was)
  hold_at k d e (inr same) =
      let slot : slice_index_or new.slots k d ≡ x = ap (λ n. slice_index_or new.slots n d) same ∙ put.here d in
      let tile : slice_index_or more k e ≡ now.pixels = get_or_push before.tiles now.pixels e k (before.count_is ∙ sym same) in
      subst (λ (y : Slot). HoldsTile l.plan.codec (pixel_bits l.plan) y (slice_index_or more k e)) (sym slot) (subst (HoldsTile l.plan.codec (pixel_bits l.plan) x) (sym tile) now.holds)

  count_more : length more ≡ i + 1
  count_more = length-append before.tiles (now.pixels ∷ []) ∙ ap (λ n. n + 1) before.count_is

  told_more : (h : Option (List ℕ)) → IfSome h (λ file. before.tiles ≡ tiles_from l file first i) → IfSome h (λ file. now.pixels ≡ tile_in l file (first + i)) → IfSome h (λ file. more ≡ tiles_from l file first (i + 1))
  told_more None was is = tt
  told_more (Some file) was is =
      ap (λ ts. ts ++ now.pixels ∷ []) was ∙ ap (λ xs. tiles_from l file first i ++ xs ∷ []) is ∙ sym (map-range_with_len_more (tile_in l file) first i (first + i) refl)

  pub loaded_more : ReadiesNext → AreLoaded l held first (i + 1) new
  loaded_more readies = record {
    ready = readies Encode i old new x before.ready put now.ready;
    tiles = more;
    count_is = count_more;
    pixels = pixels_more l first before.tiles now.pixels before.pixels (now.count ∙ ap (λ n. pixels_of l (first + n)) (sym before.count_is)) now.some now.most;
    hold = λ k d e near. hold_at k d e (below_or k i (omega (arith, near, count_more)));
    told = told_more held before.told now.told;
  }

-- no slot has a tile at first
pub loaded_none : (l : Layout) (held : Option (List ℕ)) (first : ℕ) (w : Pool) → AreLoaded l held first 0 w
loaded_none l held first w = record {
  ready = λ i d near. absurd (omega (arith, near));
  tiles = [];
  count_is = refl;
  pixels = tt;
  hold = λ i d e near. absurd (omega (arith, near));
  told = none held;
}
  where
    none : (h : Option (List ℕ)) → IfSome h (λ file. [] ≡ tiles_from l file first 0)
    none None = tt
    none (Some file) = refl

-- ---- a tile that was read

-- a BITPIX as the machine holds it
pub round_trip : (b : ℤ) → IsBitpix b → to_z w32 (of_z w32 b) ≡ b
round_trip b is = ⊎_elim
    (λ (e : b ≡ pos 8). subst (λ (z : ℤ). to_z w32 (of_z w32 z) ≡ z) (sym e) refl)
    (⊎_elim
    (λ (e : b ≡ pos 16). subst (λ (z : ℤ). to_z w32 (of_z w32 z) ≡ z) (sym e) refl)
    (⊎_elim
    (λ (e : b ≡ pos 32). subst (λ (z : ℤ). to_z w32 (of_z w32 z) ≡ z) (sym e) refl)
    (λ (e : b ≡ pos 64). subst (λ (z : ℤ). to_z w32 (of_z w32 z) ≡ z) (sym e) refl)))
    is

-- what was read is the tile, where the source tells its bytes
pub told_tile : (l : Layout) (held : Option (List ℕ)) (len t n : ℕ) (code places : List ℕ) → IsLayout l → l.pixels_at + pixel_bytes_of l ≤ len → HoldsLength held len → TilesAreAtTheirPlaces →
    places ≡ tile_places (lengths_of l.plan.shape) (lengths_of l.plan.tile) t → length places ≡ n → AreBelow (product (lengths_of l.plan.shape)) places →
    IfSome held (λ file. code ≡ pixels_at_places l.pixel_len (drop l.pixels_at file) places) → IfSome held (λ file. stored_pixels (pixel_bits l.plan) n code ≡ tile_in l file t)
told_tile l None len t n code places is room long law at count below read = tt
told_tile l (Some file) len t n code places is room long law at count below read =
    tile_told l file code places t n is (subst (λ k. l.pixels_at + pixel_bytes_of l ≤ k) (sym long) room) law at count below read

pub hold_tile : (l : Layout) (held : Option (List ℕ)) (t n bits : ℕ) (numbers : List ℤ) (code : List ℕ) → bits ≡ pixel_bits l.plan → n ≡ pixels_of l t → 1 ≤ n → n ≤ 2 ^ 26 →
    HoldPixels bits (take (place_count bits n) numbers) (stored_pixels bits n code) → IfSome held (λ file. stored_pixels (pixel_bits l.plan) n code ≡ tile_in l file t) → HoldTile l held t numbers
hold_tile l held t n bits numbers code same count some most hold told = record {
  pixels = stored_pixels (pixel_bits l.plan) n code;
  count = size ∙ count;
  some = omega (arith, size, some);
  most = omega (arith, size, most);
  hold = subst (λ k. HoldPixels (pixel_bits l.plan) (take (place_count (pixel_bits l.plan) k) numbers) (stored_pixels (pixel_bits l.plan) n code)) count
      (subst (λ b. HoldPixels b (take (place_count b n) numbers) (stored_pixels b n code)) same hold);
  told = told;
}
  where
    size : length (stored_pixels (pixel_bits l.plan) n code) ≡ n
    size = length-map-range_with_len (λ i. pixel_of (pixel_bits l.plan) (take (pixel_bits l.plan / 8) (drop (pixel_bits l.plan / 8 * i) code))) 0 n
