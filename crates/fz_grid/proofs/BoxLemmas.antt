-- Boxes of an array, as lists.
use Rattle.std.proofs.Common.{◌≡◌, ℕ, suc, zero, ◌+◌, ◌*◌, ◌/◌, ◌%◌, ◌<◌, ◌≤◌, List, [], ◌∷◌, length, get_or, map, refl, ap, sym, ◌∙◌, arith, length-take}
use Rattle.std.specs.List.{flat_map, range_with_len}
use Rattle.std.proofs.lemmas.List.{get_or-take, length-map}
use Rattle.std.proofs.lemmas.List.FromFn.{length-map-range_with_len}
use Rattle.std.proofs.lemmas.List.Folds.{flat_map-map}
use Rattle.std.proofs.lemmas.Simd.{map-map}
use Rattle.std.proofs.lemmas.Nat.{mod_below, mul-add-lt, mul-le}
use Rattle.fz_block.specs.declared.axes.Axes.{Axes}
use Rattle.fz_grid.specs.declared.region.Region.{Region}
use Rattle.fz_grid.specs.Arrays.{coordinates_of, place_of, product}
use Rattle.fz_grid.specs.Grid.{box_coordinates, moved}
use Rattle.fz_grid.specs.Nth.{nth_place}
use Rattle.fz_grid.specs.Region.{IsWithin, lengths_of, places_of, region_corner, region_lengths}
use Rattle.fz_grid.proofs.Lists.{AllPositive}
use Rattle.fz_grid.proofs.Ranges.{flat_map_same, map_flat_map, rows_from}

-- a box with a pixel along each axis, within the array
pub record IsBox (array corner lengths : List ℕ) : Type 0 where
  pub same_corner : length corner ≡ length array
  pub same_lengths : length lengths ≡ length array
  pub positive : (i : ℕ) → i < length array → 1 ≤ get_or lengths i 0
  pub inside : (i : ℕ) → i < length array → get_or corner i 0 + get_or lengths i 0 ≤ get_or array i 0

pub box_tail : (n o r : ℕ) (ns os rs : List ℕ) → IsBox (n ∷ ns) (o ∷ os) (r ∷ rs) → IsBox ns os rs
box_tail n o r ns os rs box =
    record {
      same_corner = omega (arith, box.same_corner);
      same_lengths = omega (arith, box.same_lengths);
      positive = λ i h. box.positive (suc i) (omega arith);
      inside = λ i h. box.inside (suc i) (omega arith);
    }

pub box_of : (shape : Axes) (region : Region) → shape.n ≤ length shape.len → length region.lo ≡ 9 → length region.len ≡ 9 → shape.n ≤ 9 → IsWithin shape region → IsBox (lengths_of shape) (region_corner region) (region_lengths region)
box_of shape region shape_len lo_len len_len few within =
    record {
      same_corner = omega (arith, length-take shape.n shape.len, length-take region.n region.lo, within.same_axes);
      same_lengths = omega (arith, length-take shape.n shape.len, length-take region.n region.len, within.same_axes);
      positive =
          λ i h.
          let in_shape : i < shape.n = omega (arith, length-take shape.n shape.len) in
          let in_region : i < region.n = omega (arith, within.same_axes) in
          rw (get_or-take region.n region.len i 0 in_region) (within.positive i in_shape);
      inside =
          λ i h.
          let in_shape : i < shape.n = omega (arith, length-take shape.n shape.len) in
          let in_region : i < region.n = omega (arith, within.same_axes) in
          rw (get_or-take region.n region.len i 0 in_region, get_or-take region.n region.lo i 0 in_region, get_or-take shape.n shape.len i 0 in_shape) (within.inside i in_shape);
    }

pub lengths_positive : (ns os rs : List ℕ) → IsBox ns os rs → AllPositive rs
unfolding AllPositive
lengths_positive ns os rs box i h = box.positive i (omega (arith, box.same_lengths))

-- the coordinates of a box are listed in the order of their numbers
pub box_digits : (rs : List ℕ) → box_coordinates rs ≡ map (coordinates_of rs) (range_with_len 0 (product rs))
box_digits [] = refl
box_digits (zero ∷ rs) =
    let none : 0 ≡ zero * product rs = omega arith in
    flat_map_none (box_coordinates rs) ∙ ap (λ k. map (coordinates_of (zero ∷ rs)) (range_with_len 0 k)) none
  where
    flat_map_none : (l : List (List ℕ)) → flat_map (λ rest. map (λ c. c ∷ rest) (range_with_len 0 0)) l ≡ []
    flat_map_none [] = refl
    flat_map_none (x ∷ l) = flat_map_none l
box_digits (suc r' ∷ rs) =
    let r = suc r' in
    let row : List ℕ → List (List ℕ) = λ rest. map (λ c. c ∷ rest) (range_with_len 0 r) in
    let whole : product rs * r ≡ r * product rs = omega arith in
    ap (flat_map row) (box_digits rs)
    ∙ (flat_map-map row (coordinates_of rs) (range_with_len 0 (product rs))
    ∙ (rows_from (λ c q. c ∷ coordinates_of rs q) r 0 (product rs) (omega arith)
    ∙ (ap (λ k. map (coordinates_of (r ∷ rs)) (range_with_len (0 * r) k)) whole
    ∙ ap (λ a. map (coordinates_of (r ∷ rs)) (range_with_len a (r * product rs))) (omega arith))))

-- a box has so many places
pub places_length : (ns os rs : List ℕ) → length (places_of ns os rs) ≡ product rs
places_length ns os rs =
    length-map (box_coordinates rs) (λ c. place_of ns (moved os c))
    ∙ (ap length (box_digits rs) ∙ length-map-range_with_len (coordinates_of rs) 0 (product rs))

-- the places of a box by their numbers
pub places_by_number : (ns os rs : List ℕ) → AllPositive rs → places_of ns os rs ≡ map (nth_place ns os rs) (range_with_len 0 (product rs))
places_by_number ns os rs positive =
    ap (map (λ c. place_of ns (moved os c))) (box_digits rs)
    ∙ map-map (λ c. place_of ns (moved os c)) (coordinates_of rs) (range_with_len 0 (product rs))

-- each place of a box lies in the array
pub nth_lt : (ns os rs : List ℕ) (k : ℕ) → IsBox ns os rs → nth_place ns os rs k < product ns
nth_lt [] os rs k box = omega arith
nth_lt (n ∷ ns) [] rs k box = absurd (omega (arith, box.same_corner))
nth_lt (n ∷ ns) (o ∷ os) [] k box = absurd (omega (arith, box.same_lengths))
nth_lt (n ∷ ns) (o ∷ os) (r ∷ rs) k box =
    let positive = box.positive zero (omega arith) in
    let inside = box.inside zero (omega arith) in
    let low : o + k % r < n = omega (arith, positive, inside, mod_below k r positive) in
    let high = nth_lt ns os rs (k / r) (box_tail n o r ns os rs box) in
    omega (arith, mul-add-lt (nth_place ns os rs (k / r)) n (o + k % r) (product ns) high low)

-- a box has no more places than its array
pub box_le : (ns os rs : List ℕ) → IsBox ns os rs → product rs ≤ product ns
box_le [] os [] box = omega arith
box_le [] os (r ∷ rs) box = absurd (omega (arith, box.same_lengths))
box_le (n ∷ ns) [] rs box = absurd (omega (arith, box.same_corner))
box_le (n ∷ ns) (o ∷ os) [] box = absurd (omega (arith, box.same_lengths))
box_le (n ∷ ns) (o ∷ os) (r ∷ rs) box =
    let inside = box.inside zero (omega arith) in
    mul-le r (product rs) n (product ns) (omega (arith, inside)) (box_le ns os rs (box_tail n o r ns os rs box))

-- a table whose front is a box of the array
pub within_of : (shape : Axes) (region : Region) → shape.n ≤ length shape.len → region.n ≡ shape.n → IsBox (lengths_of shape) (region_corner region) (region_lengths region) → IsWithin shape region
within_of shape region long same box =
    record {
      same_axes = same;
      positive =
          λ i h.
          let in_front : i < length (lengths_of shape) = omega (arith, length-take shape.n shape.len) in
          let in_region : i < region.n = omega arith in
          let here = get_or-take region.n region.len i 0 in_region in
          omega (arith, here, box.positive i in_front);
      inside =
          λ i h.
          let in_front : i < length (lengths_of shape) = omega (arith, length-take shape.n shape.len) in
          let in_region : i < region.n = omega arith in
          let len_here = get_or-take region.n region.len i 0 in_region in
          let lo_here = get_or-take region.n region.lo i 0 in_region in
          let shape_here = get_or-take shape.n shape.len i 0 h in
          omega (arith, len_here, lo_here, shape_here, box.inside i in_front);
    }

pub box_along : (ns os os' rs rs' : List ℕ) → os' ≡ os → rs' ≡ rs → IsBox ns os rs → IsBox ns os' rs'
box_along ns os os' rs rs' corner lengths box =
    record {
      same_corner = ap length corner ∙ box.same_corner;
      same_lengths = ap length lengths ∙ box.same_lengths;
      positive = λ i h. rw lengths (box.positive i h);
      inside = λ i h. rw (corner, lengths) (box.inside i h);
    }

-- the places of a box: a row for each place of the box's higher axes
pub places_rows : (n o r : ℕ) (ns os rs : List ℕ) → places_of (n ∷ ns) (o ∷ os) (r ∷ rs) ≡ flat_map (λ p. map (λ c. o + c + n * p) (range_with_len 0 r)) (places_of ns os rs)
places_rows n o r ns os rs =
    let place : List ℕ → ℕ = λ c. place_of (n ∷ ns) (moved (o ∷ os) c) in
    let row : List ℕ → List (List ℕ) = λ rest. map (λ c. c ∷ rest) (range_with_len 0 r) in
    let turned : (rest : List ℕ) → map place (row rest) ≡ map (λ c. o + c + n * place_of ns (moved os rest)) (range_with_len 0 r) =
    λ rest. map-map place (λ c. c ∷ rest) (range_with_len 0 r) in
    map_flat_map place row (box_coordinates rs)
    ∙ (flat_map_same (λ rest. map place (row rest)) (λ rest. map (λ c. o + c + n * place_of ns (moved os rest)) (range_with_len 0 r)) (box_coordinates rs) turned
    ∙ sym (flat_map-map (λ p. map (λ c. o + c + n * p) (range_with_len 0 r)) (λ c. place_of ns (moved os c)) (box_coordinates rs)))
