-- The tiles of an array with its box replaced.
use Rattle.std.specs.Prelude.{⊤}
use Rattle.std.proofs.Common.{◌≡◌, ℕ, zero, suc, ◌+◌, ◌-◌, ◌*◌, ◌/◌, ◌%◌, ◌<◌, min, ℤ, pos, List, [], ◌∷◌, length, map, slice_index, slice_index_or, refl, sym, ap, ◌∙◌, arith, zero-add, get_or}
use Rattle.std.specs.List.{range_with_len}
use Rattle.std.proofs.lemmas.List.FromFn.{get_or-map-range_with_len, length-map-range_with_len}
use Rattle.fz_grid.specs.Arrays.{AreCoordinatesOf, IsArray, NumberArray, at, coordinates_of, place_of, product}
use Rattle.fz_grid.specs.Grid.{box_coordinates, moved, tile, tile_coordinates, tile_corner, tile_lengths}
use Rattle.fz_grid.specs.Laws.{BoxesAreInOrder, NumbersHavePlaces, PlacesAreInside, PlacesHaveCoordinates}
use Rattle.fz_grid.specs.Region.{lengths_of}
use Rattle.fz_laws.specs.Given.{Given}
use Rattle.fz_laws.specs.PatchLaws.{TilesAreReplaced}
use Rattle.fz_laws.specs.NewNumbers.{new_at, new_number, replaced}
use Rattle.fz_laws.specs.PatchTaken.{PlaceLaws}
use Rattle.fz_laws.proofs.Passes.{map_range}

-- coordinates below lengths, axis by axis
abbrev pub Below : List ℕ → List ℕ → Type 0
Below [] [] = ⊤
Below [] (n ∷ ns) = ⊥
Below (c ∷ cs) [] = ⊥
Below (c ∷ cs) (n ∷ ns) = (c < n) × Below cs ns

pub below_by_axes : (cs ns : List ℕ) → AreCoordinatesOf ns cs → Below cs ns
below_by_axes [] [] are = tt
below_by_axes [] (n ∷ ns) are = let axes = are.axes in absurd (omega arith)
below_by_axes (c ∷ cs) [] are = let axes = are.axes in absurd (omega arith)
below_by_axes (c ∷ cs) (n ∷ ns) are =
    let axes : length (c ∷ cs) ≡ length (n ∷ ns) = are.axes in
    let rest : AreCoordinatesOf ns cs = record { axes = omega arith; below = λ i less. are.below (suc i) (omega arith) } in
    (are.below 0 (omega arith), below_by_axes cs ns rest)

pub axes_by_below : (cs ns : List ℕ) → Below cs ns → AreCoordinatesOf ns cs
axes_by_below [] [] are = record { axes = refl; below = λ i less. absurd (omega arith) }
axes_by_below [] (n ∷ ns) are = absurd are
axes_by_below (c ∷ cs) [] are = absurd are
axes_by_below (c ∷ cs) (n ∷ ns) are =
    let rest : AreCoordinatesOf ns cs = axes_by_below cs ns are.1 in
    record { axes = ap suc rest.axes; below = by_axis rest }
  where
    by_axis : AreCoordinatesOf ns cs → (i : ℕ) → i < length (n ∷ ns) → slice_index (c ∷ cs) i < slice_index (n ∷ ns) i
    by_axis rest zero less = are.0
    by_axis rest (suc i) less = rest.below i (omega arith)

-- the pixels of a tile lie in the array
pub tile_inside : (ns ts : List ℕ) (k : ℕ) (cs : List ℕ) → length ts ≡ length ns → Below cs (tile_lengths ns ts k) → Below (moved (tile_corner ns ts k) cs) ns
tile_inside [] ts k [] same below = tt
tile_inside [] ts k (c ∷ cs) same below = absurd below
tile_inside (n ∷ ns) [] k cs same below = absurd (omega arith)
tile_inside (n ∷ ns) (t ∷ ts) k [] same below = absurd below
tile_inside (n ∷ ns) (t ∷ ts) k (c ∷ cs) same below =
    let m : ℕ = (n + (t - 1)) / t in
    let here : c < min t (n - k % m * t) = below.0 in
    (omega arith, tile_inside ns ts (k / m) cs (omega arith) below.1)

-- ---- an array with its box replaced

pub new_at_map : (g : Given) (h : List ℕ → ℤ) (cs : List (List ℕ)) → new_at g cs (map h cs) ≡ map (λ c. new_number g c (h c)) cs
new_at_map g h [] = refl
new_at_map g h (c ∷ cs) = ap (λ l. new_number g c (h c) ∷ l) (new_at_map g h cs)

pub nth_new : (g : Given) (cs : List (List ℕ)) (xs : List ℤ) (k : ℕ) → k < length cs → k < length xs →
    slice_index_or (new_at g cs xs) k (pos 0) ≡ new_number g (slice_index_or cs k []) (slice_index_or xs k (pos 0))
nth_new g [] xs k one two = absurd (omega arith)
nth_new g (c ∷ cs) [] k one two = absurd (omega arith)
nth_new g (c ∷ cs) (x ∷ xs) zero one two = refl
nth_new g (c ∷ cs) (x ∷ xs) (suc k) one two = nth_new g cs xs k (omega arith) (omega arith)

pub boxes_count : BoxesAreInOrder → (lengths : List ℕ) → length (box_coordinates lengths) ≡ product lengths
boxes_count order lengths = ap length (order lengths) ∙ length-map-range_with_len (coordinates_of lengths) 0 (product lengths)

pub nth_box : BoxesAreInOrder → (lengths : List ℕ) (k : ℕ) → k < product lengths → slice_index_or (box_coordinates lengths) k [] ≡ coordinates_of lengths k
nth_box order lengths k less = ap (λ l. slice_index_or l k []) (order lengths) ∙ get_or-map-range_with_len (coordinates_of lengths) 0 (product lengths) k k [] less (zero-add k)

pub at_replaced : PlaceLaws → (g : Given) (a : NumberArray) (c : List ℕ) → IsArray a → Below c a.lengths → at (replaced g a) c ≡ new_number g c (at a c)
at_replaced laws g a c whole below =
    let are : AreCoordinatesOf a.lengths c = axes_by_below c a.lengths below in
    let place : ℕ = place_of a.lengths c in
    let less : place < product a.lengths = laws.inside a.lengths c are in
    let count : length (box_coordinates a.lengths) ≡ product a.lengths = boxes_count laws.order a.lengths in
    let numbers : length a.numbers ≡ product a.lengths = whole in
    nth_new g (box_coordinates a.lengths) a.numbers place (omega arith) (omega arith)
    ∙ ap (λ d. new_number g d (at a c)) (nth_box laws.order a.lengths place less ∙ laws.coordinates a.lengths c are)

-- the coordinates of a tile, one after another
pub tile_order : BoxesAreInOrder → (array lengths : List ℕ) (t : ℕ) →
    tile_coordinates array lengths t ≡ map (λ k. moved (tile_corner array lengths t) (coordinates_of (tile_lengths array lengths t) k)) (range_with_len 0 (product (tile_lengths array lengths t)))
tile_order order array lengths t =
    ap (map (moved (tile_corner array lengths t))) (order (tile_lengths array lengths t))
    ∙ map_map (moved (tile_corner array lengths t)) (coordinates_of (tile_lengths array lengths t)) (range_with_len 0 (product (tile_lengths array lengths t)))
  where
    map_map : (f : List ℕ → List ℕ) (g : ℕ → List ℕ) (ks : List ℕ) → map f (map g ks) ≡ map (λ k. f (g k)) ks
    map_map f g [] = refl
    map_map f g (k ∷ ks) = ap (λ l. f (g k) ∷ l) (map_map f g ks)

pub pixel_inside : PlaceLaws → (array lengths : List ℕ) (t k : ℕ) → length lengths ≡ length array → k < product (tile_lengths array lengths t) →
    Below (moved (tile_corner array lengths t) (coordinates_of (tile_lengths array lengths t) k)) array
pixel_inside laws array lengths t k same less =
    tile_inside array lengths t (coordinates_of (tile_lengths array lengths t) k) same
    (below_by_axes (coordinates_of (tile_lengths array lengths t) k) (tile_lengths array lengths t) (laws.numbers (tile_lengths array lengths t) k less).0)

map_after : {X : Type 0} (f : List ℕ → X) (g : ℕ → List ℕ) (ks : List ℕ) → map f (map g ks) ≡ map (λ k. f (g k)) ks
map_after f g [] = refl
map_after f g (k ∷ ks) = ap (λ l. f (g k) ∷ l) (map_after f g ks)

-- two functions of coordinates that give the same within an array give the same of a tile
pub same_in_tile : PlaceLaws → {X : Type 0} (f g : List ℕ → X) (array lengths : List ℕ) (t : ℕ) → length lengths ≡ length array → ((c : List ℕ) → Below c array → g c ≡ f c) →
    map g (tile_coordinates array lengths t) ≡ map f (tile_coordinates array lengths t)
same_in_tile laws f g array lengths t same each =
    let spot : ℕ → List ℕ = λ k. moved (tile_corner array lengths t) (coordinates_of (tile_lengths array lengths t) k) in
    let ks : List ℕ = range_with_len 0 (product (tile_lengths array lengths t)) in
    ap (map g) (tile_order laws.order array lengths t)
    ∙ (map_after g spot ks
    ∙ (map_range (λ k. f (spot k)) (λ k. g (spot k)) 0 (product (tile_lengths array lengths t)) (λ k low high. each (spot k) (pixel_inside laws array lengths t k same (omega arith)))
    ∙ (sym (map_after f spot ks)
    ∙ sym (ap (map f) (tile_order laws.order array lengths t)))))

pub tiles_are_replaced : PlaceLaws → TilesAreReplaced
unfolding tile
tiles_are_replaced laws p g a t are whole same_lengths within =
    let lengths : List ℕ = lengths_of p.tile in
    same_in_tile laws (λ c. new_number g c (at a c)) (at (replaced g a)) a.lengths lengths t are.axes (λ c below. at_replaced laws g a c whole below)
    ∙ (sym (new_at_map g (at a) (tile_coordinates a.lengths lengths t))
    ∙ ap (λ l. new_at g (tile_coordinates l lengths t) (map (at a) (tile_coordinates a.lengths lengths t))) same_lengths)
