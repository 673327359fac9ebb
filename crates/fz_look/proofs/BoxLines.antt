-- The sieve of a region, and what is left of a line of it (FITS 4.0, section 3.3.2).
use Rattle.std.proofs.Common.{◌≡◌, ℕ, zero, suc, ◌+◌, ◌-◌, ◌*◌, ◌/◌, ◌%◌, ◌<◌, ◌≤◌, ℤ, pos, List, [], ◌∷◌, length, take, drop, replicate, get_or, refl, sym, ap, ◌∙◌, subst, arith}
use Rattle.std.specs.Prelude.{slice_index}
use Rattle.std.proofs.lemmas.List.{drop-drop, drop-take, get_or-replicate, get_or-take, get_or_append_left, length-append, length-replicate, length-take, take-replicate, take-take, take_at}
use Rattle.std.proofs.lemmas.Nat.{div-add-mod', mul-le}
use Rattle.std.proofs.Math.Nat.{mul-add, mul_comm}
use Rattle.fz_block.specs.declared.axes.Axes.{Axes}
use Rattle.fz_grid.specs.Arrays.{IsArray, NumberArray, coordinates_of, place_of, product}
use Rattle.fz_grid.specs.Laws.{BoxesAreInOrder, NumbersHavePlaces, PlacesAreInside, PlacesHaveCoordinates}
use Rattle.fz_grid.specs.Region.{IsWithin, lengths_of, region_corner, region_lengths}
use Rattle.fz_grid.specs.Sieve.{IsSieveOf, pick_count, pick_counts, sieve_hi, sieve_lengths, sieve_lo, sieve_step}
use Rattle.fz_grid.specs.declared.region.Region.{Region}
use Rattle.fz_grid.specs.Cutout.{Sifts, picked_numbers}
use Rattle.fz_tile.specs.Laws.{HasPlainLen, SlicesBytes}
use Rattle.fz_tile.specs.Pixels.{IsBitpix}
use Rattle.fz_tile.specs.Plain.{plain_bytes}
use Rattle.fz_look.specs.Boxes.{HasPixel, from_corner, inside_of, last_of, sieve_in}
use Rattle.fz_look.specs.Laws.{HoldsBox}
use Rattle.fz_look.proofs.Lines.{IsIn, line_all, picked_len, room_all, room_array}

-- ---- along each axis

in_front : (n : ℕ) (ls os ms cs : List ℕ) → n ≤ length ls → n ≤ length os → n ≤ length ms → n ≤ length cs →
    ((i : ℕ) → i < n → (slice_index os i ≤ slice_index cs i) × (slice_index cs i < slice_index os i + slice_index ms i) × (slice_index os i + slice_index ms i ≤ slice_index ls i)) →
    IsIn (take n ls) (take n os) (take n ms) (take n cs)
in_front zero ls os ms cs a b c d each = tt
in_front (suc n) [] os ms cs a b c d each = absurd (omega (arith, a))
in_front (suc n) (l ∷ ls) [] ms cs a b c d each = absurd (omega (arith, b))
in_front (suc n) (l ∷ ls) (o ∷ os) [] cs a b c d each = absurd (omega (arith, c))
in_front (suc n) (l ∷ ls) (o ∷ os) (m ∷ ms) [] a b c d each = absurd (omega (arith, d))
in_front (suc n) (l ∷ ls) (o ∷ os) (m ∷ ms) (x ∷ cs) a b c d each =
    let first = each 0 (omega arith) in
    (first.0, first.1, first.2, in_front n ls os ms cs (omega (arith, a)) (omega (arith, b)) (omega (arith, c)) (omega (arith, d)) (λ i low. each (suc i) (omega (arith, low))))

-- coordinates after those of the corner do not count
from_front : (n : ℕ) (os cs : List ℕ) → from_corner (take n os) cs ≡ from_corner (take n os) (take n cs)
from_front zero os cs = refl
from_front (suc n) [] cs = refl
from_front (suc n) (o ∷ os) [] = refl
from_front (suc n) (o ∷ os) (c ∷ cs) = ap (λ (l : List ℕ). (c - o) ∷ l) (from_front n os cs)

-- a list has an entry for each axis that has a place
pub long_by : (n : ℕ) (xs : List ℕ) → ((i : ℕ) → i < n → 1 ≤ slice_index xs i) → n ≤ length xs
long_by zero xs some = omega arith
long_by (suc n) [] some = absurd (omega (arith, some 0 (omega arith)))
long_by (suc n) (x ∷ xs) some = let rest = long_by n xs (λ i low. some (suc i) (omega (arith, low))) in omega (arith, rest)

pub shape_long : (shape : Axes) (r : Region) → IsWithin shape r → shape.n ≤ length shape.len
shape_long shape r is = long_by shape.n shape.len (λ i low. omega (arith, is.positive i low, is.inside i low))

-- ---- the sieve

last_len : (n : ℕ) (os ms : List ℕ) → n ≤ length os → n ≤ length ms → length (last_of (take n os) (take n ms)) ≡ n
last_len zero os ms a b = refl
last_len (suc n) [] ms a b = absurd (omega (arith, a))
last_len (suc n) (o ∷ os) [] a b = absurd (omega (arith, b))
last_len (suc n) (o ∷ os) (m ∷ ms) a b =
    let rest = last_len n os ms (omega (arith, a)) (omega (arith, b)) in
    omega (arith, rest)

last_at : (n i : ℕ) (os ms : List ℕ) → n ≤ length os → n ≤ length ms → i < n → get_or (last_of (take n os) (take n ms)) i 0 ≡ get_or os i 0 + (get_or ms i 0 - 1)
last_at zero i os ms a b low = absurd (omega (arith, low))
last_at (suc n) i [] ms a b low = absurd (omega (arith, a))
last_at (suc n) i (o ∷ os) [] a b low = absurd (omega (arith, b))
last_at (suc n) zero (o ∷ os) (m ∷ ms) a b low = refl
last_at (suc n) (suc i) (o ∷ os) (m ∷ ms) a b low = last_at n i os ms (omega (arith, a)) (omega (arith, b)) (omega (arith, low))

one_count : (o m : ℕ) → 1 ≤ m → pick_count o (o + (m - 1)) 1 ≡ m
one_count o m some = omega (arith, some)

counts_are : (n : ℕ) (os ms : List ℕ) → n ≤ length os → n ≤ length ms → ((i : ℕ) → i < n → 1 ≤ slice_index ms i) → pick_counts (take n os) (last_of (take n os) (take n ms)) (replicate n 1) ≡ take n ms
counts_are zero os ms a b some = refl
counts_are (suc n) [] ms a b some = absurd (omega (arith, a))
counts_are (suc n) (o ∷ os) [] a b some = absurd (omega (arith, b))
counts_are (suc n) (o ∷ os) (m ∷ ms) a b some =
    let first : pick_count o (o + (m - 1)) 1 ≡ m = one_count o m (some 0 (omega arith)) in
    let rest = counts_are n os ms (omega (arith, a)) (omega (arith, b)) (λ i low. some (suc i) (omega (arith, low))) in
    λ i. first i ∷ rest i

module _ (shape : Axes) (r : Region) (few : shape.n ≤ 9) (long : shape.n ≤ length shape.len) (los : length r.lo ≡ 9) (lens : length r.len ≡ 9) (is : IsWithin shape r) where
  axes : r.n ≡ shape.n
  axes = is.same_axes

  hi_is : sieve_hi (sieve_in r) ≡ last_of (region_corner r) (region_lengths r)
  hi_is = take_at (last_of (region_corner r) (region_lengths r)) (replicate (9 - r.n) 0) r.n (last_len r.n r.lo r.len (omega (arith, axes, few, los)) (omega (arith, axes, few, lens)))

  step_is : sieve_step (sieve_in r) ≡ replicate r.n 1
  step_is = take-replicate r.n 9 1 (omega (arith, axes, few))

  pub lengths_are : sieve_lengths (sieve_in r) ≡ region_lengths r
  lengths_are =
      (λ i. pick_counts (region_corner r) (hi_is i) (step_is i))
      ∙ counts_are r.n r.lo r.len (omega (arith, axes, few, los)) (omega (arith, axes, few, lens)) (λ i low. is.positive i (omega (arith, low, axes)))

  hi_at : (i : ℕ) → i < shape.n → slice_index (sieve_in r).hi i ≡ slice_index r.lo i + (slice_index r.len i - 1)
  hi_at i low =
      let a : r.n ≤ length r.lo = omega (arith, axes, few, los) in
      let b : r.n ≤ length r.len = omega (arith, axes, few, lens) in
      let count : length (last_of (region_corner r) (region_lengths r)) ≡ r.n = last_len r.n r.lo r.len a b in
      get_or_append_left (last_of (region_corner r) (region_lengths r)) (replicate (9 - r.n) 0) 0 i (omega (arith, low, axes, count))
      ∙ last_at r.n i r.lo r.len a b (omega (arith, low, axes))

  one_at : (i : ℕ) → i < 9 → get_or (replicate {A = ℕ} 9 1) i 0 ≡ 1
  one_at i low = get_or-replicate 9 i 1 0 low

  pub is_sieve : IsSieveOf shape (sieve_in r)
  is_sieve = record {
    same_axes = axes;
    ordered = λ i low. let last = hi_at i low in omega (arith, last);
    inside = λ i low. let last = hi_at i low in omega (arith, last, is.positive i low, is.inside i low);
    positive = λ i low. let one = one_at i (omega (arith, low, few)) in omega (arith, one);
  }

  take_at_each : (xs : List ℕ) (i : ℕ) → i < shape.n → slice_index (take r.n xs) i ≡ slice_index xs i
  take_at_each xs i low = get_or-take r.n xs i 0 (omega (arith, low, axes))

  shape_at : (i : ℕ) → i < shape.n → slice_index (lengths_of shape) i ≡ slice_index shape.len i
  shape_at i low = get_or-take shape.n shape.len i 0 low

  shape_len : length (lengths_of shape) ≡ shape.n
  shape_len = omega (arith, length-take shape.n shape.len, long, few)

  pub sifts : Sifts (lengths_of shape) (sieve_in r)
  sifts =
      let hi_len : length (sieve_in r).hi ≡ 9 =
      length-append (last_of (region_corner r) (region_lengths r)) (replicate (9 - r.n) 0)
      ∙ omega (arith, last_len r.n r.lo r.len (omega (arith, axes, few, los)) (omega (arith, axes, few, lens)), length-replicate {A = ℕ} (9 - r.n) 0, axes, few) in
      record {
        los = omega (arith, length-take r.n r.lo, shape_len, axes, few, los);
        his = omega (arith, length-take r.n (sieve_in r).hi, shape_len, axes, few, hi_len);
        steps = omega (arith, length-take r.n (sieve_in r).step, shape_len, axes, few, length-replicate {A = ℕ} 9 1);
        ordered = λ i low.
            let near : i < shape.n = omega (arith, low, shape_len) in
            omega (arith, take_at_each r.lo i near, take_at_each (sieve_in r).hi i near, is_sieve.ordered i near);
        inside = λ i low.
            let near : i < shape.n = omega (arith, low, shape_len) in
            omega (arith, take_at_each (sieve_in r).hi i near, shape_at i near, is_sieve.inside i near);
        positive = λ i low.
            let near : i < shape.n = omega (arith, low, shape_len) in
            omega (arith, take_at_each (sieve_in r).step i near, is_sieve.positive i near);
      }

  -- ---- one of its lines

  module _ (some : 1 ≤ shape.n) (at : List ℕ) (ats : length at ≡ 9) (has : HasPixel r at) where
    is_in : IsIn (take shape.n shape.len) (take shape.n r.lo) (take shape.n r.len) (take shape.n at)
    is_in = in_front shape.n shape.len r.lo r.len at (omega (arith, few, long)) (omega (arith, few, los)) (omega (arith, few, lens)) (omega (arith, few, ats))
        (λ i low. let pixel = has i (omega (arith, low, axes)) in (pixel.0, pixel.1, is.inside i low))

    first_of_front : (n : ℕ) (xs : List ℕ) → 1 ≤ n → slice_index (take n xs) 0 ≡ slice_index xs 0
    first_of_front n xs more = get_or-take n xs 0 0 more

    -- how many of its pixels are left
    abbrev left : ℕ
    left = slice_index r.lo 0 + slice_index r.len 0 - slice_index at 0

    enough : slice_index (take shape.n at) 0 + left ≤ slice_index (take shape.n r.lo) 0 + slice_index (take shape.n r.len) 0
    enough =
        let pixel = has 0 (omega (arith, some, axes)) in
        omega (arith, pixel.0, pixel.1, first_of_front shape.n at some, first_of_front shape.n r.lo some, first_of_front shape.n r.len some)

    lens_same : take shape.n r.len ≡ region_lengths r
    lens_same = ap (λ n. take n r.len) (sym axes)

    corner_same : from_corner (take shape.n r.lo) (take shape.n at) ≡ inside_of r at
    corner_same = sym (from_front shape.n r.lo at) ∙ ap (λ n. from_corner (take n r.lo) at) (sym axes)

    some_axes : 1 ≤ length (take shape.n shape.len)
    some_axes = omega (arith, length-take shape.n shape.len, long, few, some)

    pub has_room : PlacesAreInside → place_of (region_lengths r) (inside_of r at) + left ≤ product (region_lengths r)
    has_room inside =
        subst (λ (l : List ℕ). place_of l (inside_of r at) + left ≤ product l) lens_same
        (subst (λ (c : List ℕ). place_of (take shape.n r.len) c + left ≤ product (take shape.n r.len)) corner_same
        (room_all inside (take shape.n shape.len) (take shape.n r.lo) (take shape.n r.len) (take shape.n at) some_axes is_in left enough))

    pub has_room_in_array : PlacesAreInside → place_of (lengths_of shape) (take shape.n at) + left ≤ product (lengths_of shape)
    has_room_in_array inside = room_array inside (take shape.n shape.len) (take shape.n r.lo) (take shape.n r.len) (take shape.n at) some_axes is_in left enough

    module _ (inside : PlacesAreInside) (coords : PlacesHaveCoordinates) (order : BoxesAreInOrder) (a : NumberArray) (whole : IsArray a) (lengths : a.lengths ≡ lengths_of shape) where
      -- the numbers of the line
      pub numbers_are : take left (drop (place_of (region_lengths r) (inside_of r at)) (picked_numbers a (sieve_in r))) ≡ take left (drop (place_of (lengths_of shape) (take shape.n at)) a.numbers)
      numbers_are =
          let corner : sieve_lo (sieve_in r) ≡ take shape.n r.lo = ap (λ n. take n r.lo) axes in
          let count : length (take shape.n r.lo) ≡ r.n = omega (arith, length-take shape.n r.lo, los, few, axes) in
          let step : sieve_step (sieve_in r) ≡ replicate (length (take shape.n r.lo)) 1 = step_is ∙ ap (λ n. replicate n 1) (sym count) in
          (λ i. take left (drop (place_of (sym lens_same i) (sym corner_same i)) (picked_numbers a (sieve_in r))))
          ∙ line_all inside coords order a (sieve_in r) (take shape.n shape.len) (take shape.n r.lo) (take shape.n r.len) (take shape.n at) some_axes lengths whole corner step
          (lengths_are ∙ sym lens_same) is_in left enough

-- ---- a region alone

-- where it ends along each axis
ends : List ℕ → List ℕ → List ℕ
ends [] ms = []
ends (o ∷ os) [] = []
ends (o ∷ os) (m ∷ ms) = (o + m) ∷ ends os ms

ends_at : (i : ℕ) (os ms : List ℕ) → i < length os → i < length ms → get_or (ends os ms) i 0 ≡ get_or os i 0 + get_or ms i 0
unfolding ends
ends_at i [] ms a b = absurd (omega (arith, a))
ends_at i (o ∷ os) [] a b = absurd (omega (arith, b))
ends_at zero (o ∷ os) (m ∷ ms) a b = refl
ends_at (suc i) (o ∷ os) (m ∷ ms) a b = ends_at i os ms (omega (arith, a)) (omega (arith, b))

pub box_room : PlacesAreInside → (r : Region) (at : List ℕ) → 1 ≤ r.n → r.n ≤ 9 → length r.lo ≡ 9 → length r.len ≡ 9 → length at ≡ 9 → HasPixel r at →
    place_of (region_lengths r) (inside_of r at) + (slice_index r.lo 0 + slice_index r.len 0 - slice_index at 0) ≤ product (region_lengths r)
box_room inside r at some few los lens ats has =
    let shape : Axes = record { n = r.n; len = ends r.lo r.len } in
    let is : IsWithin shape r =
    record {
      same_axes = refl;
      positive = λ i low. let pixel = has i low in omega (arith, pixel.0, pixel.1);
      inside = λ i low. let end = ends_at i r.lo r.len (omega (arith, low, few, los)) (omega (arith, low, few, lens)) in omega (arith, end);
    } in
    has_room shape r few (shape_long shape r is) los lens is some at ats has inside

-- ---- bytes

slice_take : (n m most : ℕ) (l : List ℕ) → m + n ≤ most → take n (drop m (take most l)) ≡ take n (drop m l)
slice_take n m most l within =
    let long : most ≡ m + (most - m) = omega (arith, within) in
    ap (λ k. take n (drop m (take k l))) long ∙ ap (take n) (drop-take m (most - m) l) ∙ take-take n (most - m) (drop m l) (omega (arith, within))

module _ (w from n p q k : ℕ) (band box all : List ℕ) where
  -- a part of a line is the same in the box and in the array
  part_is : take (w * k) (drop (w * p) box) ≡ take (w * k) (drop (w * q) all) → take (length box) band ≡ box → w * p + w * k ≤ length box → from ≡ w * q + from % w → from % w + n ≤ w * k →
      take n (drop (from % w + w * p) band) ≡ take n (drop from all)
  part_is line there room place few =
      let rest : ℕ = from % w in
      let begin : rest + w * p ≡ w * p + rest = omega arith in
      ap (λ m. take n (drop m band)) begin
      ∙ sym (slice_take n (w * p + rest) (length box) band (omega (arith, room, few)))
      ∙ ap (λ (l : List ℕ). take n (drop (w * p + rest) l)) there
      ∙ ap (take n) (sym (drop-drop rest (w * p) box))
      ∙ sym (slice_take n rest (w * k) (drop (w * p) box) few)
      ∙ ap (λ (l : List ℕ). take n (drop rest l)) line
      ∙ slice_take n rest (w * k) (drop (w * q) all) few
      ∙ ap (take n) (drop-drop rest (w * q) all)
      ∙ ap (λ m. take n (drop m all)) (sym place)

pub room_bytes : (w p k most : ℕ) → p + k ≤ most → w * p + w * k ≤ w * most
room_bytes w p k most room =
    let all : w * (p + k) ≤ w * most = mul-le w (p + k) w most (omega arith) room in
    omega (arith, all, mul-add w p k)

place_parts : (from w : ℕ) → from ≡ w * (from / w) + from % w
place_parts from w = omega (arith, div-add-mod' from w, mul_comm (from / w) w)

pub line_bytes : PlacesAreInside → PlacesHaveCoordinates → NumbersHavePlaces → BoxesAreInOrder → SlicesBytes → HasPlainLen → (bits from n : ℕ) (shape : Axes) (r : Region) (at : List ℕ) (a : NumberArray) (band : List ℕ) →
    IsBitpix (pos bits) → IsArray a → a.lengths ≡ lengths_of shape → 1 ≤ shape.n → (few : shape.n ≤ 9) (los : length r.lo ≡ 9) (lens : length r.len ≡ 9) (ats : length at ≡ 9) (is : IsWithin shape r) → HasPixel r at →
    take shape.n at ≡ coordinates_of (lengths_of shape) (from / (bits / 8)) → from / (bits / 8) < product (lengths_of shape) → HoldsBox (plain_bytes bits (picked_numbers a (sieve_in r))) band →
    from % (bits / 8) + n ≤ bits / 8 * (slice_index r.lo 0 + slice_index r.len 0 - slice_index at 0) →
    (take n (drop (from % (bits / 8) + bits / 8 * place_of (region_lengths r) (inside_of r at)) band) ≡ take n (drop from (plain_bytes bits a.numbers)))
    × (from + n ≤ bits / 8 * product (lengths_of shape))
line_bytes inside coords numbers order slices count bits from n shape r at a band size whole lengths some few los lens ats is has there low box enough =
    let long : shape.n ≤ length shape.len = shape_long shape r is in
    let w : ℕ = bits / 8 in
    let k : ℕ = slice_index r.lo 0 + slice_index r.len 0 - slice_index at 0 in
    let p : ℕ = place_of (region_lengths r) (inside_of r at) in
    let q : ℕ = place_of (lengths_of shape) (take shape.n at) in
    let X : List ℤ = picked_numbers a (sieve_in r) in
    let same : q ≡ from / w = ap (place_of (lengths_of shape)) there ∙ (numbers (lengths_of shape) (from / w) low).1 in
    let line : take (w * k) (drop (w * p) (plain_bytes bits X)) ≡ take (w * k) (drop (w * q) (plain_bytes bits a.numbers)) =
    sym (slices bits p k X size)
    ∙ ap (plain_bytes bits) (numbers_are shape r few long los lens is some at ats has inside coords order a whole lengths)
    ∙ slices bits q k a.numbers size in
    let picked : length X ≡ product (region_lengths r) = picked_len inside coords order a (sieve_in r) (region_lengths r) (lengths_are shape r few long los lens is) in
    let long_box : length (plain_bytes bits X) ≡ w * product (region_lengths r) = count bits X size ∙ ap (λ m. w * m) picked in
    let room : w * p + w * k ≤ w * product (region_lengths r) = room_bytes w p k (product (region_lengths r)) (has_room shape r few long los lens is some at ats has inside) in
    let place : from ≡ w * q + from % w = place_parts from w ∙ ap (λ m. w * m + from % w) (sym same) in
    let end : w * q + w * k ≤ w * product (lengths_of shape) = room_bytes w q k (product (lengths_of shape)) (has_room_in_array shape r few long los lens is some at ats has inside) in
    (part_is w from n p q k band (plain_bytes bits X) (plain_bytes bits a.numbers) line box (omega (arith, room, long_box)) place enough, omega (arith, place, end, enough))
