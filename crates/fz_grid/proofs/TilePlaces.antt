-- The places of a tile lie in the array.
use Rattle.std.proofs.Common.{◌≡◌, ℕ, zero, suc, ◌+◌, ◌-◌, ◌/◌, ◌<◌, min, List, [], ◌∷◌, length, map, get_or, refl, ap, ◌∙◌, arith}
use Rattle.std.specs.List.{range_with_len}
use Rattle.std.proofs.lemmas.List.FromFn.{get_or-map-range_with_len}
use Rattle.std.proofs.lemmas.Simd.{map-map}
use Rattle.fz_grid.specs.Arrays.{AreCoordinatesOf, coordinates_of, place_of, product}
use Rattle.fz_grid.specs.Division.{AreTileLengths, tile_places}
use Rattle.fz_grid.specs.Grid.{corner_of, lengths_from, moved, tile_corner, tile_counts, tile_lengths}
use Rattle.fz_grid.specs.Nth.{nth_place}
use Rattle.fz_grid.specs.Region.{places_of}
use Rattle.fz_grid.proofs.BoxLemmas.{box_digits, places_length}
use Rattle.fz_grid.proofs.WholeLemmas.{inside_of, there_of}

front_below : (n c : ℕ) (ns cs : List ℕ) → AreCoordinatesOf (n ∷ ns) (c ∷ cs) → c < n
front_below n c ns cs are = are.below zero (omega arith)

rest_below : (n c : ℕ) (ns cs : List ℕ) → AreCoordinatesOf (n ∷ ns) (c ∷ cs) → AreCoordinatesOf ns cs
rest_below n c ns cs are = record { axes = omega (arith, are.axes); below = λ i h. are.below (suc i) (omega arith) }

both_below : (n c : ℕ) (ns cs : List ℕ) → c < n → AreCoordinatesOf ns cs → AreCoordinatesOf (n ∷ ns) (c ∷ cs)
both_below n c ns cs front rest = record { axes = omega (arith, rest.axes); below = each }
  where
    each : (i : ℕ) → i < length (n ∷ ns) → get_or (c ∷ cs) i 0 < get_or (n ∷ ns) i 0
    each zero h = front
    each (suc i) h = rest.below i (omega arith)

-- how many axes there are

counts_len : (ns ts : List ℕ) → length ts ≡ length ns → length (tile_counts ns ts) ≡ length ns
counts_len [] ts same = refl
counts_len (n ∷ ns) [] same = absurd (omega (arith, same))
counts_len (n ∷ ns) (t ∷ ts) same = ap suc (counts_len ns ts (omega (arith, same)))

coordinates_len : (ns : List ℕ) (k : ℕ) → length (coordinates_of ns k) ≡ length ns
coordinates_len [] k = refl
coordinates_len (n ∷ ns) k = ap suc (coordinates_len ns (k / n))

corner_len : (ds ts : List ℕ) → length ts ≡ length ds → length (corner_of ds ts) ≡ length ds
corner_len [] ts same = refl
corner_len (d ∷ ds) [] same = absurd (omega (arith, same))
corner_len (d ∷ ds) (t ∷ ts) same = ap suc (corner_len ds ts (omega (arith, same)))

tile_corner_len : (array tile : List ℕ) (t : ℕ) → length tile ≡ length array → length (tile_corner array tile t) ≡ length array
tile_corner_len array tile t same =
    let counts : length (tile_counts array tile) ≡ length array = counts_len array tile same in
    let digits : length (coordinates_of (tile_counts array tile) t) ≡ length (tile_counts array tile) = coordinates_len (tile_counts array tile) t in
    corner_len (coordinates_of (tile_counts array tile) t) tile (omega (arith, same, counts, digits)) ∙ digits ∙ counts

-- a tile ends within the array
tile_within : (ns ts cs ks : List ℕ) → length ts ≡ length ns → length cs ≡ length ns → AreCoordinatesOf (lengths_from ns ts cs) ks → AreCoordinatesOf ns (moved cs ks)
tile_within [] ts [] ks of_ts of_cs are = record { axes = refl; below = λ i h. absurd (omega (arith, h)) }
tile_within [] ts (c ∷ cs) ks of_ts of_cs are = absurd (omega (arith, of_cs))
tile_within (n ∷ ns) [] cs ks of_ts of_cs are = absurd (omega (arith, of_ts))
tile_within (n ∷ ns) (t ∷ ts) [] ks of_ts of_cs are = absurd (omega (arith, of_cs))
tile_within (n ∷ ns) (t ∷ ts) (c ∷ cs) [] of_ts of_cs are = absurd (omega (arith, are.axes))
tile_within (n ∷ ns) (t ∷ ts) (c ∷ cs) (k ∷ ks) of_ts of_cs are =
    let low : k < min t (n - c) = front_below (min t (n - c)) k (lengths_from ns ts cs) ks are in
    both_below n (c + k) ns (moved cs ks) (omega (arith, low)) (tile_within ns ts cs ks (omega (arith, of_ts)) (omega (arith, of_cs)) (rest_below (min t (n - c)) k (lengths_from ns ts cs) ks are))

-- what a box has as its k-th place
box_nth : (ns os rs : List ℕ) (k : ℕ) → k < product rs → get_or (places_of ns os rs) k 0 ≡ nth_place ns os rs k
box_nth ns os rs k below =
    ap (λ l. get_or (map (λ c. place_of ns (moved os c)) l) k 0) (box_digits rs)
    ∙ (ap (λ l. get_or l k 0) (map-map (λ c. place_of ns (moved os c)) (coordinates_of rs) (range_with_len 0 (product rs)))
    ∙ get_or-map-range_with_len (nth_place ns os rs) 0 (product rs) k k 0 below (omega arith))

pub tile_inside : (array tile : List ℕ) (t k : ℕ) → AreTileLengths array tile → k < length (tile_places array tile t) → get_or (tile_places array tile t) k 0 < product array
tile_inside array tile t k tiles low =
    let corner : List ℕ = tile_corner array tile t in
    let lengths : List ℕ = tile_lengths array tile t in
    let in_box : k < product lengths = omega (arith, low, places_length array corner lengths) in
    let nth : get_or (tile_places array tile t) k 0 ≡ nth_place array corner lengths k = box_nth array corner lengths k in_box in
    let pixel : AreCoordinatesOf array (moved corner (coordinates_of lengths k)) =
    tile_within array tile corner (coordinates_of lengths k) tiles.axes (tile_corner_len array tile t tiles.axes) (there_of lengths k in_box).0 in
    let here : nth_place array corner lengths k < product array = inside_of array (moved corner (coordinates_of lengths k)) pixel in
    omega (arith, nth, here)
