-- A pixel of a tile that lies in the box is one of its picks.
use Rattle.std.specs.Prelude.{⊤}
use Rattle.std.proofs.Common.{◌≡◌, ℕ, zero, suc, ◌+◌, ◌-◌, ◌*◌, ◌/◌, ◌<◌, ◌≤◌, min, Bool, true, false, cond, ℤ, pos, List, [], ◌∷◌, length, map, replicate, Contains, ◌&&◌, nat_le, nat_lt, slice_index_or, refl, sym, ap, ◌∙◌, subst, arith, leb-true, ltb-true}
use Rattle.fz_grid.specs.Arrays.{at, coordinates_of, place_of, product}
use Rattle.fz_grid.specs.Division.{AreTileLengths}
use Rattle.fz_grid.specs.Grid.{box_coordinates, moved, tile_coordinates, tile_corner, tile_lengths}
use Rattle.fz_grid.specs.Region.{lengths_of}
use Rattle.fz_grid.specs.Sieve.{picks_before, picks_in, stepped}
use Rattle.fz_grid.specs.Cutout.{first_from, picks_in_tile}
use Rattle.fz_head.specs.declared.plan.Plan.{Plan}
use Rattle.fz_laws.specs.Given.{Given, box_sieve, last_along}
use Rattle.fz_laws.specs.PatchLaws.{IsGivenFor, NewNumbersStay}
use Rattle.fz_laws.specs.NewNumbers.{from_corner, is_in_box, new_number}
use Rattle.fz_laws.specs.PatchTaken.{PlaceLaws}
use Rattle.fz_laws.proofs.NewBoxes.{coordinates_count, corner_length, his, los, nth_coordinates, steps, tile_lengths_length}
use Rattle.fz_laws.proofs.NewTiles.{Below, axes_by_below, below_by_axes, boxes_count, nth_box, nth_new}
use Rattle.fz_laws.proofs.Passes.{and_left, and_right}

-- ---- along one axis: of a tile from c on, n long, pixel d lies between o and h

before_by_one : (o h x : ℕ) → picks_before o h 1 x ≡ min (x - o) (h - o + 1)
before_by_one o h x =
    let one : (x - o + (1 - 1)) / 1 ≡ x - o = omega arith in
    let count : (h - o) / 1 + 1 ≡ h - o + 1 = omega arith in
    λ j. min (one j) (count j)

-- what is known of pixel d, and of its number among the picks
record OnAxis (o h c n d : ℕ) : Type 0 where
  low : o ≤ c + d
  high : c + d ≤ h
  within : d < n

record IsPickOf (first count d k : ℕ) : Type 0 where
  is : first + k * 1 ≡ d
  below : k < count

on_axis : (o h c n d : ℕ) → OnAxis o h c n d → IsPickOf (o + picks_before o h 1 c * 1 - c) (picks_before o h 1 (c + n) - picks_before o h 1 c) d (d - (o + picks_before o h 1 c * 1 - c))
on_axis o h c n d on =
    let low = on.low in
    let high = on.high in
    let within = on.within in
    let start : picks_before o h 1 c ≡ min (c - o) (h - o + 1) = before_by_one o h c in
    let end : picks_before o h 1 (c + n) ≡ min (c + n - o) (h - o + 1) = before_by_one o h (c + n) in
    record { is = omega arith; below = omega arith }

-- ---- along all axes

abbrev OnAxes : List ℕ → List ℕ → List ℕ → List ℕ → List ℕ → Type 0
OnAxes [] hs cs ns ds = ds ≡ []
OnAxes (o ∷ os) [] cs ns ds = ⊥
OnAxes (o ∷ os) (h ∷ hs) [] ns ds = ⊥
OnAxes (o ∷ os) (h ∷ hs) (c ∷ cs) [] ds = ⊥
OnAxes (o ∷ os) (h ∷ hs) (c ∷ cs) (n ∷ ns) [] = ⊥
OnAxes (o ∷ os) (h ∷ hs) (c ∷ cs) (n ∷ ns) (d ∷ ds) = OnAxis o h c n d × OnAxes os hs cs ns ds

-- the number of a pick along each axis
picks_of : List ℕ → List ℕ → List ℕ → List ℕ → List ℕ
picks_of [] hs cs ds = []
picks_of (o ∷ os) [] cs ds = []
picks_of (o ∷ os) (h ∷ hs) [] ds = []
picks_of (o ∷ os) (h ∷ hs) (c ∷ cs) [] = []
picks_of (o ∷ os) (h ∷ hs) (c ∷ cs) (d ∷ ds) = (d - (o + picks_before o h 1 c * 1 - c)) ∷ picks_of os hs cs ds

picks_step : (os hs cs ns ds : List ℕ) → OnAxes os hs cs ns ds → stepped (first_from os hs (replicate (length os) 1) cs) (replicate (length os) 1) (picks_of os hs cs ds) ≡ ds
unfolding picks_of
picks_step [] hs cs ns ds on = sym on
picks_step (o ∷ os) [] cs ns ds on = absurd on
picks_step (o ∷ os) (h ∷ hs) [] ns ds on = absurd on
picks_step (o ∷ os) (h ∷ hs) (c ∷ cs) [] ds on = absurd on
picks_step (o ∷ os) (h ∷ hs) (c ∷ cs) (n ∷ ns) [] on = absurd on
picks_step (o ∷ os) (h ∷ hs) (c ∷ cs) (n ∷ ns) (d ∷ ds) on =
    let here = (on_axis o h c n d on.0).is in
    let rest = picks_step os hs cs ns ds on.1 in
    λ j. here j ∷ rest j

picks_below : (os hs cs ns ds : List ℕ) → OnAxes os hs cs ns ds → Below (picks_of os hs cs ds) (picks_in os hs (replicate (length os) 1) cs ns)
unfolding picks_of
picks_below [] hs cs ns ds on = tt
picks_below (o ∷ os) [] cs ns ds on = absurd on
picks_below (o ∷ os) (h ∷ hs) [] ns ds on = absurd on
picks_below (o ∷ os) (h ∷ hs) (c ∷ cs) [] ds on = absurd on
picks_below (o ∷ os) (h ∷ hs) (c ∷ cs) (n ∷ ns) [] on = absurd on
picks_below (o ∷ os) (h ∷ hs) (c ∷ cs) (n ∷ ns) (d ∷ ds) on = ((on_axis o h c n d on.0).below, picks_below os hs cs ns ds on.1)

-- a pixel of a tile in a box
on_axes : (os lens cs ns ds : List ℕ) → length lens ≡ length os → length cs ≡ length os → Below ds ns → length ns ≡ length os → is_in_box os lens (moved cs ds) ≡ true →
    OnAxes os (last_along os lens) cs ns ds
on_axes [] lens cs [] [] same long below all inside = refl
on_axes [] lens cs [] (d ∷ ds) same long below all inside = absurd below
on_axes [] lens cs (n ∷ ns) ds same long below all inside = absurd (omega arith)
on_axes (o ∷ os) [] cs ns ds same long below all inside = absurd (omega arith)
on_axes (o ∷ os) (m ∷ ms) [] ns ds same long below all inside = absurd (omega arith)
on_axes (o ∷ os) (m ∷ ms) (c ∷ cs) [] ds same long below all inside = absurd (omega arith)
on_axes (o ∷ os) (m ∷ ms) (c ∷ cs) (n ∷ ns) [] same long below all inside = absurd below
on_axes (o ∷ os) (m ∷ ms) (c ∷ cs) (n ∷ ns) (d ∷ ds) same long below all inside =
    let low : o ≤ c + d = leb-true o (c + d) (and_left (nat_le o (c + d)) (nat_lt (c + d) (o + m) && is_in_box os ms (moved cs ds)) inside) in
    let after = and_right (nat_le o (c + d)) (nat_lt (c + d) (o + m) && is_in_box os ms (moved cs ds)) inside in
    let high : c + d < o + m = ltb-true (c + d) (o + m) (and_left (nat_lt (c + d) (o + m)) (is_in_box os ms (moved cs ds)) after) in
    let rest : is_in_box os ms (moved cs ds) ≡ true = and_right (nat_lt (c + d) (o + m)) (is_in_box os ms (moved cs ds)) after in
    (record { low = low; high = omega arith; within = below.0 }, on_axes os ms cs ns ds (omega arith) (omega arith) below.1 (omega arith) rest)

-- ---- in a tile

map_at : (f : List ℕ → ℕ) (cs : List (List ℕ)) (k d : ℕ) → k < length cs → slice_index_or (map f cs) k d ≡ f (slice_index_or cs k [])
map_at f [] k d less = absurd (omega arith)
map_at f (c ∷ cs) zero d less = refl
map_at f (c ∷ cs) (suc k) d less = map_at f cs k d (omega arith)

length_map : (f : List ℕ → ℕ) (cs : List (List ℕ)) → length (map f cs) ≡ length cs
length_map f [] = refl
length_map f (c ∷ cs) = ap suc (length_map f cs)

module _ (laws : PlaceLaws) (p : Plan) (g : Given) (t place : ℕ) (are : AreTileLengths (lengths_of p.shape) (lengths_of p.tile)) (is : IsGivenFor p g) where
  abbrev array : List ℕ
  array = lengths_of p.shape

  abbrev lengths : List ℕ
  lengths = lengths_of p.tile

  abbrev corner : List ℕ
  corner = tile_corner array lengths t

  abbrev sizes : List ℕ
  sizes = tile_lengths array lengths t

  axes : length g.corner ≡ length array
  axes = ap length (sym (los g)) ∙ is.sifts.los

  long : length g.corner ≤ length g.array.lengths
  long = let eq = is.axes in omega arith

  pub picked_place : place < product sizes → is_in_box g.corner g.array.lengths (moved corner (coordinates_of sizes place)) ≡ true → Contains (picks_in_tile array lengths (box_sieve g) t) place
  picked_place less inside =
      let ds : List ℕ = coordinates_of sizes place in
      let numbers = laws.numbers sizes place less in
      let below : Below ds sizes = below_by_axes ds sizes numbers.0 in
      let hs : List ℕ = last_along g.corner g.array.lengths in
      let ones : List ℕ = replicate (length g.corner) 1 in
      let on : OnAxes g.corner hs corner sizes ds =
      on_axes g.corner g.array.lengths corner sizes ds is.axes (corner_length array lengths t are.axes ∙ sym axes) below (tile_lengths_length array lengths t are.axes ∙ sym axes) inside in
      let ks : List ℕ = picks_of g.corner hs corner ds in
      let counts : List ℕ = picks_in g.corner hs ones corner sizes in
      let few : Below ks counts = picks_below g.corner hs corner sizes ds on in
      let k : ℕ = place_of counts ks in
      let number : k < product counts = laws.inside counts ks (axes_by_below ks counts few) in
      let f : List ℕ → ℕ = λ c. place_of sizes (stepped (first_from g.corner hs ones corner) ones c) in
      let listed : length (box_coordinates counts) ≡ product counts = boxes_count laws.order counts in
      let here : slice_index_or (map f (box_coordinates counts)) k place ≡ place =
      map_at f (box_coordinates counts) k place (omega (arith, listed, number))
      ∙ (ap f (nth_box laws.order counts k number ∙ laws.coordinates counts ks (axes_by_below ks counts few))
      ∙ (ap (place_of sizes) (picks_step g.corner hs corner sizes ds on) ∙ numbers.1)) in
      let all : Contains (map f (box_coordinates counts)) place = (k, subst (λ n. k < n) (sym (length_map f (box_coordinates counts) ∙ listed)) number, here) in
      subst (λ l. Contains l place) (sym (λ j. map (λ c. place_of sizes (stepped (first_from (los g j) (his g long j) (steps g j) corner) (steps g j) c)) (box_coordinates (picks_in (los g j) (his g long j) (steps g j) corner sizes)))) all

pub stay_same : PlaceLaws → NewNumbersStay
stay_same laws p g t place xs are is within count below other =
    let array : List ℕ = lengths_of p.shape in
    let lengths : List ℕ = lengths_of p.tile in
    let less : place < product (tile_lengths array lengths t) = subst (λ n. place < n) count below in
    let many : length (tile_coordinates array lengths t) ≡ product (tile_lengths array lengths t) = coordinates_count laws array lengths t in
    nth_new g (tile_coordinates array lengths t) xs place (subst (λ n. place < n) (sym many) less) below
    ∙ (ap (λ c. new_number g c (slice_index_or xs place (pos 0))) (nth_coordinates laws array lengths t place less)
    ∙ by_test less (is_in_box g.corner g.array.lengths (moved (tile_corner array lengths t) (coordinates_of (tile_lengths array lengths t) place))) refl)
  where
    by_test : place < product (tile_lengths (lengths_of p.shape) (lengths_of p.tile) t) → (b : Bool) →
        is_in_box g.corner g.array.lengths (moved (tile_corner (lengths_of p.shape) (lengths_of p.tile) t) (coordinates_of (tile_lengths (lengths_of p.shape) (lengths_of p.tile) t) place)) ≡ b →
        cond b (at g.array (from_corner g.corner (moved (tile_corner (lengths_of p.shape) (lengths_of p.tile) t) (coordinates_of (tile_lengths (lengths_of p.shape) (lengths_of p.tile) t) place)))) (slice_index_or xs place (pos 0))
        ≡ slice_index_or xs place (pos 0)
    by_test less true e = absurd (other (picked_place laws p g t place are is less e))
    by_test less false e = refl
