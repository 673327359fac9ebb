-- An array and its tiles, there and back.
use Rattle.std.proofs.Common.{◌≡◌, ℕ, suc, zero, ◌+◌, ◌-◌, ◌*◌, ◌/◌, ◌<◌, ◌≤◌, ℤ, pos, List, [], ◌∷◌, length, get_or, map, refl, ap, sym, ◌∙◌, arith}
use Rattle.std.proofs.lemmas.List.{ext_get_or, get_or-map, length-map}
use Rattle.std.proofs.lemmas.List.FromFn.{get_or-map-range_with_len, length-map-range_with_len}
use Rattle.std.proofs.lemmas.Simd.{map-map}
use Rattle.std.proofs.Math.Nat.{div-lt_iff_lt-mul}
use Rattle.fz_grid.specs.Arrays.{AreCoordinatesOf, IsArray, NumberArray, at, coordinates_of, place_of, product}
use Rattle.fz_grid.specs.Division.{AreTileLengths, IsInOneTile, IsPlace, IsPlacedOnce, tile_places}
use Rattle.fz_grid.specs.Grid.{box_coordinates, moved, tile, tile_coordinates, tile_corner, tile_count, tile_counts, tile_lengths}
use Rattle.fz_grid.specs.Whole.{AreTiles, HaveSameTiles, joined, number_in, pixel_at}
use Rattle.fz_grid.proofs.BoxLemmas.{IsBox, places_length}
use Rattle.fz_grid.proofs.Digits.{digits_below, digits_length, digits_of_place, place_of_digits}
use Rattle.fz_grid.proofs.GridLemmas.{tiles_on}
use Rattle.fz_grid.proofs.LawLemmas.{one_tile, only_there, pixel_is, pixels_length}
use Rattle.fz_grid.proofs.Lists.{AllPositive}
use Rattle.fz_grid.proofs.PlaceLemmas.{AreBelow, place_lt, positive_below}
use Rattle.fz_grid.proofs.Tilings.{IsCut, tile_is_box}

factor_some : (n m p : ℕ) → p < n * m → 0 < m
factor_some n zero p below = absurd (omega arith)
factor_some n (suc m) p below = omega arith

-- where there is a place, each axis has one
pub positive_of : (ns : List ℕ) (p : ℕ) → p < product ns → AllPositive ns
unfolding AllPositive
positive_of [] p below i h = absurd (omega arith)
positive_of (zero ∷ ns) p below i h = absurd (omega arith)
positive_of (suc n ∷ ns) p below zero h = omega arith
positive_of (suc n ∷ ns) p below (suc i) h = positive_of ns 0 (factor_some (suc n) (product ns) p below) i (omega arith)

axis_some : (n t : ℕ) → 0 < t → 1 ≤ tiles_on n t → 1 ≤ n
axis_some (suc n) t tile some = omega arith
axis_some zero t tile some =
    let P = div-lt_iff_lt-mul {k = t} {x = 0 + (t - 1)} {y = 1} tile in
    let none : (0 + (t - 1)) / t < 1 = P.1 (omega arith) in
    absurd (omega (arith, none))

-- where there is a tile, each axis has a place
pub array_positive : (ns ts : List ℕ) → AreTileLengths ns ts → AllPositive (tile_counts ns ts) → AllPositive ns
unfolding AllPositive
array_positive [] ts tiles some i h = absurd (omega arith)
array_positive (n ∷ ns) [] tiles some i h = absurd (omega (arith, tiles.axes))
array_positive (n ∷ ns) (t ∷ ts) tiles some zero h = axis_some n t (tiles.positive zero (omega arith)) (some zero (omega arith))
array_positive (n ∷ ns) (t ∷ ts) tiles some (suc i) h =
    array_positive ns ts (record { axes = omega (arith, tiles.axes); positive = λ k b. tiles.positive (suc k) (omega arith) }) (λ k b. some (suc k) (omega arith)) i (omega arith)

pub cut_from : (ns ts : List ℕ) → AreTileLengths ns ts → AllPositive ns → IsCut ns ts
unfolding AllPositive
cut_from ns ts tiles some = record { same = tiles.axes; some = some; positive = tiles.positive }

-- places and their coordinates
pub inside_of : (ns cs : List ℕ) → AreCoordinatesOf ns cs → place_of ns cs < product ns
unfolding AreBelow
inside_of ns cs are = place_lt ns cs are.below

pub back_of : (ns cs : List ℕ) → AreCoordinatesOf ns cs → coordinates_of ns (place_of ns cs) ≡ cs
unfolding AreBelow
back_of ns cs are = digits_of_place ns cs are.axes are.below

pub there_of : (ns : List ℕ) (p : ℕ) → p < product ns → AreCoordinatesOf ns (coordinates_of ns p) × (place_of ns (coordinates_of ns p) ≡ p)
unfolding AreBelow
there_of ns p below =
    let positive = positive_of ns p below in
    (record { axes = digits_length ns p; below = digits_below ns p positive }, place_of_digits ns p positive below)

pub in_one_tile : (ns ts cs : List ℕ) → AreTileLengths ns ts → AreCoordinatesOf ns cs → IsInOneTile ns ts cs
unfolding AreBelow
in_one_tile ns ts cs tiles are = one_tile ns ts cs (cut_from ns ts tiles (positive_below ns cs are.below)) are.axes are.below

-- coordinates that are counted from a corner
pub moved_length : (os cs : List ℕ) → length cs ≡ length os → length (moved os cs) ≡ length os
moved_length [] cs same = refl
moved_length (o ∷ os) [] same = absurd (omega arith)
moved_length (o ∷ os) (c ∷ cs) same = ap suc (moved_length os cs (omega arith))

pub moved_at : (os cs : List ℕ) (i : ℕ) → length cs ≡ length os → i < length os → get_or (moved os cs) i 0 ≡ get_or os i 0 + get_or cs i 0
moved_at [] cs i same h = absurd (omega arith)
moved_at (o ∷ os) [] i same h = absurd (omega arith)
moved_at (o ∷ os) (c ∷ cs) zero same h = refl
moved_at (o ∷ os) (c ∷ cs) (suc i) same h = moved_at os cs i (omega arith) (omega arith)

-- a place of a box is a place of its array
pub moved_inside : (ns os rs cs : List ℕ) → IsBox ns os rs → AreCoordinatesOf rs cs → AreCoordinatesOf ns (moved os cs)
moved_inside ns os rs cs box are =
    let same : length cs ≡ length os = omega (arith, are.axes, box.same_lengths, box.same_corner) in
    record {
      axes = moved_length os cs same ∙ box.same_corner;
      below = λ i h. omega (arith, moved_at os cs i same (omega (arith, box.same_corner)), box.inside i h, are.below i (omega (arith, box.same_lengths)));
    }

-- the numbers of a tile's pixels are those of their coordinates
numbers_are : (ns ts : List ℕ) (t : ℕ) → tile_places ns ts t ≡ map (place_of ns) (tile_coordinates ns ts t)
numbers_are ns ts t = sym (map-map (place_of ns) (moved (tile_corner ns ts t)) (box_coordinates (tile_lengths ns ts t)))

number_is : (ns ts : List ℕ) (t k : ℕ) → k < length (tile_coordinates ns ts t) → get_or (tile_places ns ts t) k 0 ≡ place_of ns (get_or (tile_coordinates ns ts t) k [])
number_is ns ts t k inside =
    ap (λ l. get_or l k 0) (numbers_are ns ts t) ∙ get_or-map (place_of ns) (tile_coordinates ns ts t) k [] 0 inside

same_count : (ns ts : List ℕ) (t : ℕ) → length (tile_places ns ts t) ≡ length (tile_coordinates ns ts t)
same_count ns ts t = ap length (numbers_are ns ts t) ∙ length-map (tile_coordinates ns ts t) (place_of ns)

-- a pixel of a tile is a place of the array
pixel_inside : (ns ts : List ℕ) (t k : ℕ) → IsCut ns ts → k < length (tile_coordinates ns ts t) → AreCoordinatesOf ns (get_or (tile_coordinates ns ts t) k [])
pixel_inside ns ts t k cut inside =
    let lens = tile_lengths ns ts t in
    let below : k < product lens = omega (arith, pixels_length ns ts t cut) in
    let here = pixel_is ns ts t k cut below in
    let are = moved_inside ns (tile_corner ns ts t) lens (coordinates_of lens k) (tile_is_box ns ts t cut) (there_of lens k below).0 in
    rw here are

pub placed_once : (ns ts : List ℕ) (p : ℕ) → AreTileLengths ns ts → p < product ns → IsPlacedOnce ns ts p
placed_once ns ts p tiles below =
    let positive = positive_of ns p below in
    let cut = cut_from ns ts tiles positive in
    let there = there_of ns p below in
    let one = in_one_tile ns ts (coordinates_of ns p) tiles there.0 in
    record {
      tile_number = one.tile_number;
      pixel_number = one.pixel_number;
      found =
          record {
            tile_in = one.found.tile_in;
            pixel_in = omega (arith, one.found.pixel_in, same_count ns ts one.tile_number);
            here = number_is ns ts one.tile_number one.pixel_number one.found.pixel_in ∙ (ap (place_of ns) one.found.here ∙ there.1);
          };
      only =
          λ t k place.
          let inside : k < length (tile_coordinates ns ts t) = omega (arith, place.pixel_in, same_count ns ts t) in
          let pixel = get_or (tile_coordinates ns ts t) k [] in
          let number : place_of ns pixel ≡ p = sym (number_is ns ts t k inside) ∙ place.here in
          let here : pixel ≡ coordinates_of ns p = sym (back_of ns pixel (pixel_inside ns ts t k cut inside)) ∙ ap (coordinates_of ns) number in
          one.only t k (record { tile_in = place.tile_in; pixel_in = inside; here = here });
    }

pub tile_is_at : (a : NumberArray) (ts : List ℕ) (t : ℕ) → tile a ts t ≡ map (λ p. get_or a.numbers p (pos 0)) (tile_places a.lengths ts t)
unfolding tile
tile_is_at a ts t =
    let box = box_coordinates (tile_lengths a.lengths ts t) in
    let corner = tile_corner a.lengths ts t in
    map-map (at a) (moved corner) box ∙ sym (map-map (λ p. get_or a.numbers p (pos 0)) (λ c. place_of a.lengths (moved corner c)) box)

pub tile_length : (a : NumberArray) (ts : List ℕ) (t : ℕ) → length (tile a ts t) ≡ product (tile_lengths a.lengths ts t)
tile_length a ts t =
    ap length (tile_is_at a ts t)
    ∙ (length-map (tile_places a.lengths ts t) (λ p. get_or a.numbers p (pos 0))
    ∙ places_length a.lengths (tile_corner a.lengths ts t) (tile_lengths a.lengths ts t))

-- the number at a place stands in the place's tile
number_from : (a : NumberArray) (ts : List ℕ) (p t k : ℕ) → IsPlace a.lengths ts p t k → get_or a.numbers p (pos 0) ≡ get_or (tile a ts t) k (pos 0)
number_from a ts p t k place =
    ap (λ q. get_or a.numbers q (pos 0)) (sym place.here)
    ∙ (sym (get_or-map (λ q. get_or a.numbers q (pos 0)) (tile_places a.lengths ts t) k 0 (pos 0) place.pixel_in)
    ∙ ap (λ l. get_or l k (pos 0)) (sym (tile_is_at a ts t)))

same_numbers : (ns ts : List ℕ) (xs ys : List ℤ) → AreTileLengths ns ts → length xs ≡ product ns → length ys ≡ product ns → ((t : ℕ) → t < tile_count ns ts → tile (record { lengths = ns; numbers = xs }) ts t ≡ tile (record { lengths = ns; numbers = ys }) ts t) → xs ≡ ys
same_numbers ns ts xs ys tiles of_xs of_ys same =
    ext_get_or (pos 0) xs ys (of_xs ∙ sym of_ys) (λ p h.
    let a : NumberArray = record { lengths = ns; numbers = xs } in
    let b : NumberArray = record { lengths = ns; numbers = ys } in
    let once = placed_once ns ts p tiles (omega (arith, of_xs)) in
    let t = once.tile_number in
    let k = once.pixel_number in
    number_from a ts p t k once.found ∙ (ap (λ l. get_or l k (pos 0)) (same t once.found.tile_in) ∙ sym (number_from b ts p t k once.found)))

pub same_array : (a b : NumberArray) (ts : List ℕ) → AreTileLengths a.lengths ts → IsArray a → IsArray b → a.lengths ≡ b.lengths → HaveSameTiles ts a b → a ≡ b
same_array a b ts tiles of_a of_b lengths same =
    let numbers : a.numbers ≡ b.numbers =
    same_numbers a.lengths ts a.numbers b.numbers tiles of_a (of_b ∙ ap product (sym lengths)) (λ t h.
    same t h ∙ ap (λ l. tile (record { lengths = l; numbers = b.numbers }) ts t) (sym lengths)) in
    λ i. record { lengths = lengths i; numbers = numbers i }

pub joined_whole : (ns ts : List ℕ) (tiles : List (List ℤ)) → IsArray (joined ns ts tiles)
unfolding joined
joined_whole ns ts tiles = length-map-range_with_len (λ p. number_in ns ts tiles (coordinates_of ns p)) 0 (product ns)

-- the number at coordinates of the array that is joined
joined_at : (ns ts : List ℕ) (tiles : List (List ℤ)) (cs : List ℕ) → AreCoordinatesOf ns cs → at (joined ns ts tiles) cs ≡ number_in ns ts tiles cs
unfolding joined
joined_at ns ts tiles cs are =
    get_or-map-range_with_len (λ p. number_in ns ts tiles (coordinates_of ns p)) 0 (product ns) (place_of ns cs) (place_of ns cs) (pos 0) (inside_of ns cs are) (omega arith)
    ∙ ap (number_in ns ts tiles) (back_of ns cs are)

pub joined_tile : (ns ts : List ℕ) (tiles : List (List ℤ)) (t : ℕ) → AreTileLengths ns ts → AreTiles ns ts tiles → t < tile_count ns ts → tile (joined ns ts tiles) ts t ≡ get_or tiles t []
unfolding tile number_in joined
joined_tile ns ts tiles t lengths are inside =
    let a = joined ns ts tiles in
    let wanted = get_or tiles t [] in
    let cut = cut_from ns ts lengths (array_positive ns ts lengths (positive_of (tile_counts ns ts) t inside)) in
    let coordinates = tile_coordinates ns ts t in
    let long : length (tile a ts t) ≡ length wanted = tile_length a ts t ∙ sym (are.pixels t inside) in
    ext_get_or (pos 0) (tile a ts t) wanted long (λ k h.
    let within : k < length coordinates = omega (arith, length-map coordinates (at a)) in
    let cs = get_or coordinates k [] in
    let only = only_there ns ts cs cut t k (record { tile_in = inside; pixel_in = within; here = refl }) in
    get_or-map (at a) coordinates k [] (pos 0) within
    ∙ (joined_at ns ts tiles cs (pixel_inside ns ts t k cut within)
    ∙ (ap (λ x. get_or (get_or tiles x []) (pixel_at ns ts cs) (pos 0)) (sym only.0) ∙ ap (λ x. get_or wanted x (pos 0)) (sym only.1))))
