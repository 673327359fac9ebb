-- In the box an array has the numbers of the given image, in their order.
use Rattle.std.specs.Prelude.{⊤}
use Rattle.std.proofs.Common.{◌≡◌, ℕ, zero, suc, ◌+◌, ◌-◌, ◌*◌, ◌/◌, ◌<◌, ◌≤◌, ◌==◌, ◌&&◌, nat_le, nat_lt, Bool, true, false, cond, ℤ, pos, List, [], ◌∷◌, length, map, replicate, slice_index, slice_index_or, if◌then◌else◌, refl, sym, ap, ◌∙◌, subst, arith, zero-add, le-leb, lt-ltb, eqb-true, eq-eqb, ext_get_or}
use Rattle.std.specs.List.{range_with_len}
use Rattle.std.proofs.lemmas.List.FromFn.{get_or-map-range_with_len, length-map-range_with_len}
use Rattle.fz_grid.specs.Arrays.{IsArray, NumberArray, at, coordinates_of, product}
use Rattle.fz_grid.specs.Grid.{box_coordinates, tile, tile_count, tile_lengths}
use Rattle.fz_grid.specs.Laws.{JoinedHasTheTiles, JoinedIsArray}
use Rattle.fz_grid.specs.Region.{lengths_of}
use Rattle.fz_grid.specs.Sieve.{pick_counts, sieve_lengths, stepped}
use Rattle.fz_grid.specs.Whole.{AreTiles, joined}
use Rattle.fz_grid.specs.Cutout.{Sifts, numbers_at, picked_numbers, picks_in_cutout, picks_in_tile}
use Rattle.fz_grid.specs.CutoutLaws.{TilesGiveTheirPicks}
use Rattle.fz_head.specs.declared.plan.Plan.{Plan}
use Rattle.fz_laws.specs.Given.{Given, box_sieve, last_along}
use Rattle.fz_laws.specs.PatchLaws.{IsGivenFor, NewNumbersAreGiven}
use Rattle.fz_laws.specs.NewNumbers.{from_corner, is_in_box, new_numbers, replaced}
use Rattle.fz_laws.specs.PatchTaken.{PlaceLaws}
use Rattle.fz_laws.proofs.NewBoxes.{his, in_box_at, last_at, los, steps}
use Rattle.fz_laws.proofs.NewTiles.{Below, at_replaced, below_by_axes, tiles_are_replaced}
use Rattle.fz_laws.proofs.Passes.{and_both, map_range}

-- ---- the lengths of a cutout of the box are those of the given image

-- a pixel along each axis
abbrev Positive : List ℕ → Type 0
Positive [] = ⊤
Positive (n ∷ ns) = (1 ≤ n) × Positive ns

positive_by : (ns : List ℕ) → ((i : ℕ) → i < length ns → 1 ≤ slice_index ns i) → Positive ns
positive_by [] each = tt
positive_by (n ∷ ns) each = (each 0 (omega arith), positive_by ns (λ i less. each (suc i) (omega arith)))

counts_are : (os ns : List ℕ) → length ns ≡ length os → Positive ns → pick_counts os (last_along os ns) (replicate (length os) 1) ≡ ns
counts_are [] [] same some = refl
counts_are [] (n ∷ ns) same some = absurd (omega arith)
counts_are (o ∷ os) [] same some = absurd (omega arith)
counts_are (o ∷ os) (n ∷ ns) same some =
    let one : 1 ≤ n = some.0 in
    let here : (o + n - 1 - o) / 1 + 1 ≡ n = omega arith in
    let rest = counts_are os ns (omega arith) some.1 in
    λ j. here j ∷ rest j

pub lengths_are : (g : Given) → length g.array.lengths ≡ length g.corner → Positive g.array.lengths → sieve_lengths (box_sieve g) ≡ g.array.lengths
lengths_are g same some =
    (λ j. pick_counts (los g j) (his g (omega arith) j) (steps g j)) ∙ counts_are g.corner g.array.lengths same some

-- ---- a pixel of the box, by its coordinates in the given image

stepped_in : (os ns ks : List ℕ) → length ns ≡ length os → Below ks ns → is_in_box os ns (stepped os (replicate (length os) 1) ks) ≡ true
stepped_in [] [] [] same below = refl
stepped_in [] [] (k ∷ ks) same below = absurd below
stepped_in [] (n ∷ ns) ks same below = absurd (omega arith)
stepped_in (o ∷ os) [] ks same below = absurd (omega arith)
stepped_in (o ∷ os) (n ∷ ns) [] same below = absurd below
stepped_in (o ∷ os) (n ∷ ns) (k ∷ ks) same below =
    let less : k < n = below.0 in
    let low : nat_le o (o + k * 1) ≡ true = le-leb o (o + k * 1) (omega arith) in
    let high : nat_lt (o + k * 1) (o + n) ≡ true = lt-ltb (o + k * 1) (o + n) (omega arith) in
    and_both (nat_le o (o + k * 1)) (nat_lt (o + k * 1) (o + n) && is_in_box os ns (stepped os (replicate (length os) 1) ks)) low
    (and_both (nat_lt (o + k * 1) (o + n)) (is_in_box os ns (stepped os (replicate (length os) 1) ks)) high (stepped_in os ns ks (omega arith) below.1))

stepped_back : (os ns ks : List ℕ) → length ns ≡ length os → Below ks ns → from_corner os (stepped os (replicate (length os) 1) ks) ≡ ks
stepped_back [] [] [] same below = refl
stepped_back [] [] (k ∷ ks) same below = absurd below
stepped_back [] (n ∷ ns) ks same below = absurd (omega arith)
stepped_back (o ∷ os) [] ks same below = absurd (omega arith)
stepped_back (o ∷ os) (n ∷ ns) [] same below = absurd below
stepped_back (o ∷ os) (n ∷ ns) (k ∷ ks) same below =
    let here : o + k * 1 - o ≡ k = omega arith in
    let rest = stepped_back os ns ks (omega arith) below.1 in
    λ j. here j ∷ rest j

stepped_length : (os ns ks : List ℕ) → length ns ≡ length os → Below ks ns → length (stepped os (replicate (length os) 1) ks) ≡ length os
stepped_length [] [] [] same below = refl
stepped_length [] [] (k ∷ ks) same below = absurd below
stepped_length [] (n ∷ ns) ks same below = absurd (omega arith)
stepped_length (o ∷ os) [] ks same below = absurd (omega arith)
stepped_length (o ∷ os) (n ∷ ns) [] same below = absurd below
stepped_length (o ∷ os) (n ∷ ns) (k ∷ ks) same below = ap suc (stepped_length os ns ks (omega arith) below.1)

-- ---- all numbers of an array, one after another

listed : (xs : List ℤ) → map (λ k. slice_index_or xs k (pos 0)) (range_with_len 0 (length xs)) ≡ xs
listed xs =
    let long : length (map (λ k. slice_index_or xs k (pos 0)) (range_with_len 0 (length xs))) ≡ length xs = length-map-range_with_len (λ k. slice_index_or xs k (pos 0)) 0 (length xs) in
    ext_get_or (pos 0) (map (λ k. slice_index_or xs k (pos 0)) (range_with_len 0 (length xs))) xs long
    (λ i less.
    let below : i < length xs = subst (λ n. i < n) long less in
    get_or-map-range_with_len (λ k. slice_index_or xs k (pos 0)) 0 (length xs) i i (pos 0) below (zero-add i))

map_after : (f : List ℕ → ℤ) (g : ℕ → List ℕ) (ks : List ℕ) → map f (map g ks) ≡ map (λ k. f (g k)) ks
map_after f g [] = refl
map_after f g (k ∷ ks) = ap (λ l. f (g k) ∷ l) (map_after f g ks)

pub all_numbers : PlaceLaws → (a : NumberArray) → IsArray a → map (at a) (box_coordinates a.lengths) ≡ a.numbers
all_numbers laws a whole =
    ap (map (at a)) (laws.order a.lengths)
    ∙ (map_after (at a) (coordinates_of a.lengths) (range_with_len 0 (product a.lengths))
    ∙ (map_range (λ k. slice_index_or a.numbers k (pos 0)) (λ k. at a (coordinates_of a.lengths k)) 0 (product a.lengths)
    (λ k low high. ap (λ n. slice_index_or a.numbers n (pos 0)) (laws.numbers a.lengths k (omega arith)).1)
    ∙ (ap (λ n. map (λ k. slice_index_or a.numbers k (pos 0)) (range_with_len 0 n)) (sym whole)
    ∙ listed a.numbers)))

-- two functions of coordinates that give the same within a box
same_in_box : PlaceLaws → (f g : List ℕ → ℤ) (lengths : List ℕ) → ((c : List ℕ) → Below c lengths → g c ≡ f c) → map g (box_coordinates lengths) ≡ map f (box_coordinates lengths)
same_in_box laws f g lengths each =
    ap (map g) (laws.order lengths)
    ∙ (map_after g (coordinates_of lengths) (range_with_len 0 (product lengths))
    ∙ (map_range (λ k. f (coordinates_of lengths k)) (λ k. g (coordinates_of lengths k)) 0 (product lengths)
    (λ k low high. each (coordinates_of lengths k) (below_by_axes (coordinates_of lengths k) lengths (laws.numbers lengths k (omega arith)).0))
    ∙ (sym (map_after f (coordinates_of lengths) (range_with_len 0 (product lengths)))
    ∙ sym (ap (map f) (laws.order lengths)))))

module _ (laws : PlaceLaws) (p : Plan) (g : Given) (is : IsGivenFor p g) where
  some_pixels : Positive g.array.lengths
  some_pixels = positive_by g.array.lengths is.positive

  -- a pixel of the box lies in the image
  lies_in : (array : List ℕ) → Sifts array (box_sieve g) → (c : List ℕ) → length c ≡ length g.corner → is_in_box g.corner g.array.lengths c ≡ true → Below c array
  lies_in array sifts c same inside =
      let axes : length g.corner ≡ length array = ap length (sym (los g)) ∙ sifts.los in
      below_by_axes c array (record { axes = same ∙ axes; below = λ i less. one_axis axes i less })
    where
      one_axis : length g.corner ≡ length array → (i : ℕ) → i < length array → slice_index c i < slice_index array i
      one_axis axes i less =
          let own : i < length g.corner = omega arith in
          let long : length g.corner ≤ length g.array.lengths = let eq = is.axes in omega arith in
          let both = in_box_at g.corner g.array.lengths c inside i own in
          let high : slice_index c i < slice_index g.corner i + slice_index g.array.lengths i = both.1 in
          let last : slice_index (last_along g.corner g.array.lengths) i ≡ slice_index g.corner i + slice_index g.array.lengths i - 1 = last_at g.corner g.array.lengths i own long in
          let within : slice_index (last_along g.corner g.array.lengths) i < slice_index array i = subst (λ l. slice_index l i < slice_index array i) (his g long) (sifts.inside i less) in
          omega arith

  pub box_numbers : (a : NumberArray) → IsArray a → a.lengths ≡ lengths_of p.shape → picked_numbers (replaced g a) (box_sieve g) ≡ g.array.numbers
  box_numbers a whole same =
      let lens : List ℕ = g.array.lengths in
      let sifts : Sifts a.lengths (box_sieve g) = subst (λ l. Sifts l (box_sieve g)) (sym same) is.sifts in
      (λ j. map (λ k. at (replaced g a) (stepped (los g j) (steps g j) k)) (box_coordinates (lengths_are g is.axes some_pixels j)))
      ∙ (same_in_box laws (at g.array) (λ k. at (replaced g a) (stepped g.corner (replicate (length g.corner) 1) k)) lens (λ k below. one_pixel sifts k below)
      ∙ all_numbers laws g.array is.whole)
    where
      one_pixel : Sifts a.lengths (box_sieve g) → (k : List ℕ) → Below k g.array.lengths → at (replaced g a) (stepped g.corner (replicate (length g.corner) 1) k) ≡ at g.array k
      one_pixel sifts k below =
          let c : List ℕ = stepped g.corner (replicate (length g.corner) 1) k in
          let inside : is_in_box g.corner g.array.lengths c ≡ true = stepped_in g.corner g.array.lengths k is.axes below in
          let lies : Below c a.lengths = lies_in a.lengths sifts c (stepped_length g.corner g.array.lengths k is.axes below) inside in
          at_replaced laws g a c whole lies
          ∙ (ap (λ b. cond b (at g.array (from_corner g.corner c)) (at a c)) inside
          ∙ ap (at g.array) (stepped_back g.corner g.array.lengths k is.axes below))

-- ---- a tile, as that of some array

-- lists of the right lengths, of which that of tile t is this one
abbrev with_tile : List ℕ → List ℕ → ℕ → List ℤ → ℕ → List ℤ
with_tile array lengths t xs s = if s == t then xs else replicate (product (tile_lengths array lengths s)) (pos 0)

zeros_length : (n : ℕ) → length {A = ℤ} (replicate n (pos 0)) ≡ n
zeros_length zero = refl
zeros_length (suc n) = ap suc (zeros_length n)

with_length : (array lengths : List ℕ) (t : ℕ) (xs : List ℤ) (s : ℕ) → length xs ≡ product (tile_lengths array lengths t) → length (with_tile array lengths t xs s) ≡ product (tile_lengths array lengths s)
with_length array lengths t xs s count = by_test (s == t) refl
  where
    by_test : (b : Bool) → (s == t) ≡ b → length (if b then xs else replicate (product (tile_lengths array lengths s)) (pos 0)) ≡ product (tile_lengths array lengths s)
    by_test true e = let same : s ≡ t = eqb-true s t e in count ∙ ap (λ n. product (tile_lengths array lengths n)) (sym same)
    by_test false e = zeros_length (product (tile_lengths array lengths s))

pub given_are : PlaceLaws → JoinedIsArray → JoinedHasTheTiles → TilesGiveTheirPicks → NewNumbersAreGiven
unfolding joined
given_are laws whole has gives p g t xs are is within count =
    let array : List ℕ = lengths_of p.shape in
    let lengths : List ℕ = lengths_of p.tile in
    let tiles : List (List ℤ) = map (with_tile array lengths t xs) (range_with_len 0 (tile_count array lengths)) in
    let a : NumberArray = joined array lengths tiles in
    let nth : (s : ℕ) → s < tile_count array lengths → slice_index_or tiles s [] ≡ with_tile array lengths t xs s =
    λ s less. get_or-map-range_with_len (with_tile array lengths t xs) 0 (tile_count array lengths) s s [] less (zero-add s) in
    let are_tiles : AreTiles array lengths tiles = record {
      count = length-map-range_with_len (with_tile array lengths t xs) 0 (tile_count array lengths);
      pixels = λ s less. ap length (nth s less) ∙ with_length array lengths t xs s count;
    } in
    let own : with_tile array lengths t xs t ≡ xs = ap (λ b. if b then xs else replicate (product (tile_lengths array lengths t)) (pos 0)) (eq-eqb t t refl) in
    let tile_is : tile a lengths t ≡ xs = has array lengths tiles t are are_tiles within ∙ (nth t within ∙ own) in
    let new_is : tile (replaced g a) lengths t ≡ new_numbers p g t xs = tiles_are_replaced laws p g a t are (whole array lengths tiles) refl within ∙ ap (new_numbers p g t) tile_is in
    let picked : picked_numbers (replaced g a) (box_sieve g) ≡ g.array.numbers = box_numbers laws p g is a (whole array lengths tiles) refl in
    let both = gives (replaced g a) lengths (box_sieve g) t are is.sifts in
    ap (λ l. numbers_at l (picks_in_tile array lengths (box_sieve g) t)) (sym new_is)
    ∙ (sym both
    ∙ ap (λ l. numbers_at l (picks_in_cutout array lengths (box_sieve g) t)) picked)
