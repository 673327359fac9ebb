-- A sieve that picks every pixel of an image.
use Rattle.std.proofs.Common.{◌≡◌, ℕ, suc, ◌+◌, ◌-◌, ◌*◌, ◌/◌, ◌<◌, ℤ, pos, List, [], ◌∷◌, length, map, take, refl, sym, ◌∙◌, ap, arith}
use Rattle.std.specs.Prelude.{slice_index, slice_index_or}
use Rattle.std.proofs.lemmas.List.{get_or-take, length-take-le}
use Rattle.std.specs.List.{range_with_len}
use Rattle.fz_block.specs.declared.header.Header.{Header}
use Rattle.fz_grid.specs.Arrays.{NumberArray, at, coordinates_of, place_of, product}
use Rattle.fz_grid.specs.Grid.{box_coordinates}
use Rattle.fz_grid.specs.Laws.{BoxesAreInOrder, NumbersHavePlaces}
use Rattle.fz_grid.specs.Region.{lengths_of}
use Rattle.fz_grid.specs.Sieve.{pick_counts, sieve_hi, sieve_lengths, sieve_lo, sieve_step, stepped}
use Rattle.fz_grid.specs.declared.sieve.Sieve.{Sieve}
use Rattle.fz_grid.specs.Cutout.{picked_numbers}
use Rattle.fz_files.specs.Picks.{HasNinePlaces, HasPicks}
use Rattle.fz_laws.specs.PackedCuts.{PicksAll}

-- ---- lists

mapped_twice : (f : List ℕ → ℤ) (g : ℕ → List ℕ) (ks : List ℕ) → map f (map g ks) ≡ map (λ k. f (g k)) ks
mapped_twice f g [] = refl
mapped_twice f g (k ∷ ks) = ap (λ l. f (g k) ∷ l) (mapped_twice f g ks)

-- the numbers at all places, in order
in_order : (f : ℕ → ℤ) (a : ℕ) (xs : List ℤ) → ((p : ℕ) → p < length xs → f (a + p) ≡ slice_index_or xs p (pos 0)) → map f (range_with_len a (length xs)) ≡ xs
in_order f a [] same = refl
in_order f a (x ∷ xs) same =
    let here : a + 0 ≡ a = omega arith in
    let first : f a ≡ x = sym (ap f here) ∙ same 0 (omega arith) in
    λ i. first i ∷ in_order f (a + 1) xs (λ p less.
    let next : a + 1 + p ≡ a + suc p = omega arith in
    ap f next ∙ same (suc p) (omega (arith, less))) i

-- ---- from 0 by steps of 1

stepped_same : (los steps ks : List ℕ) → length los ≡ length ks → length steps ≡ length ks → ((i : ℕ) → i < length los → slice_index los i ≡ 0) → ((i : ℕ) → i < length steps → slice_index steps i ≡ 1) →
    stepped los steps ks ≡ ks
stepped_same [] steps [] los_long steps_long zeros ones = refl
stepped_same [] steps (k ∷ ks) los_long steps_long zeros ones = absurd (omega (arith, los_long))
stepped_same (o ∷ os) steps [] los_long steps_long zeros ones = absurd (omega (arith, los_long))
stepped_same (o ∷ os) [] (k ∷ ks) los_long steps_long zeros ones = absurd (omega (arith, steps_long))
stepped_same (o ∷ os) (s ∷ ss) (k ∷ ks) los_long steps_long zeros ones =
    let low : o ≡ 0 = zeros 0 (omega arith) in
    let one : s ≡ 1 = ones 0 (omega arith) in
    let plain : 0 + k * 1 ≡ k = omega arith in
    let here : o + k * s ≡ k = (λ i. low i + k * one i) ∙ plain in
    λ i. here i ∷ stepped_same os ss ks (omega (arith, los_long)) (omega (arith, steps_long)) (λ j less. zeros (suc j) (omega (arith, less))) (λ j less. ones (suc j) (omega (arith, less))) i

counts_same : (los his steps lens : List ℕ) → length los ≡ length lens → length his ≡ length lens → length steps ≡ length lens → ((i : ℕ) → i < length los → slice_index los i ≡ 0) →
    ((i : ℕ) → i < length his → slice_index his i + 1 ≡ slice_index lens i) → ((i : ℕ) → i < length steps → slice_index steps i ≡ 1) → pick_counts los his steps ≡ lens
counts_same [] his steps [] a b c zeros ends ones = refl
counts_same [] his steps (n ∷ ns) a b c zeros ends ones = absurd (omega (arith, a))
counts_same (o ∷ os) his steps [] a b c zeros ends ones = absurd (omega (arith, a))
counts_same (o ∷ os) [] steps (n ∷ ns) a b c zeros ends ones = absurd (omega (arith, b))
counts_same (o ∷ os) (h ∷ hs) [] (n ∷ ns) a b c zeros ends ones = absurd (omega (arith, c))
counts_same (o ∷ os) (h ∷ hs) (s ∷ ss) (n ∷ ns) a b c zeros ends ones =
    let low : o ≡ 0 = zeros 0 (omega arith) in
    let one : s ≡ 1 = ones 0 (omega arith) in
    let end : h + 1 ≡ n = ends 0 (omega arith) in
    let plain : (h - 0) / 1 + 1 ≡ n = omega (arith, end) in
    let here : (h - o) / s + 1 ≡ n = (λ i. (h - low i) / one i + 1) ∙ plain in
    λ i. here i
    ∷ counts_same os hs ss ns (omega (arith, a)) (omega (arith, b)) (omega (arith, c)) (λ j less. zeros (suc j) (omega (arith, less))) (λ j less. ends (suc j) (omega (arith, less)))
    (λ j less. ones (suc j) (omega (arith, less))) i

-- ---- the picks

module _ (order : BoxesAreInOrder) (numbers : NumbersHavePlaces) (sieve : Sieve) (nine : HasNinePlaces sieve) (picks : HasPicks sieve) (h : Header) (whole : PicksAll sieve h) (axes : length (lengths_of h.axes) ≡ h.axes.n) where
  abbrev lens : List ℕ
  lens = lengths_of h.axes

  taken_long : (xs : List ℕ) → length xs ≡ 9 → length (take sieve.n xs) ≡ sieve.n
  taken_long xs long = length-take-le sieve.n xs (omega (arith, long, picks.axes))

  long_as : (xs : List ℕ) → length xs ≡ 9 → length (take sieve.n xs) ≡ length lens
  long_as xs long = taken_long xs long ∙ whole.axes ∙ sym axes

  zeros : (i : ℕ) → i < length (sieve_lo sieve) → slice_index (sieve_lo sieve) i ≡ 0
  zeros i less = let near : i < sieve.n = omega (arith, less, taken_long sieve.lo nine.los) in get_or-take sieve.n sieve.lo i 0 near ∙ whole.los i near

  ones : (i : ℕ) → i < length (sieve_step sieve) → slice_index (sieve_step sieve) i ≡ 1
  ones i less = let near : i < sieve.n = omega (arith, less, taken_long sieve.step nine.steps) in get_or-take sieve.n sieve.step i 0 near ∙ whole.steps i near

  ends : (i : ℕ) → i < length (sieve_hi sieve) → slice_index (sieve_hi sieve) i + 1 ≡ slice_index lens i
  ends i less =
      let near : i < sieve.n = omega (arith, less, taken_long sieve.hi nine.his) in
      let along : i < h.axes.n = omega (arith, near, whole.axes) in
      ap (λ n. n + 1) (get_or-take sieve.n sieve.hi i 0 near) ∙ whole.his i near ∙ sym (get_or-take h.axes.n h.axes.len i 0 along)

  lengths_same : sieve_lengths sieve ≡ lens
  lengths_same =
      counts_same (sieve_lo sieve) (sieve_hi sieve) (sieve_step sieve) lens (long_as sieve.lo nine.los) (long_as sieve.hi nine.his) (long_as sieve.step nine.steps) zeros ends ones

  -- every number of an array is picked, in order
  pub whole_picks : (a : NumberArray) → a.lengths ≡ lens → length a.numbers ≡ product lens → picked_numbers a sieve ≡ a.numbers
  whole_picks a same count =
      ap (map pick) (ap box_coordinates lengths_same ∙ order lens) ∙ mapped_twice pick (coordinates_of lens) (range_with_len 0 (product lens))
      ∙ ap (λ n. map (λ p. pick (coordinates_of lens p)) (range_with_len 0 n)) (sym count)
      ∙ in_order (λ p. pick (coordinates_of lens p)) 0 a.numbers each
    where
      pick : List ℕ → ℤ
      pick k = at a (stepped (sieve_lo sieve) (sieve_step sieve) k)

      each : (p : ℕ) → p < length a.numbers → pick (coordinates_of lens (0 + p)) ≡ slice_index_or a.numbers p (pos 0)
      each p less =
          let here : 0 + p ≡ p = omega arith in
          let place = numbers lens p (omega (arith, less, count)) in
          let k : List ℕ = coordinates_of lens p in
          let plain : stepped (sieve_lo sieve) (sieve_step sieve) k ≡ k =
          stepped_same (sieve_lo sieve) (sieve_step sieve) k (long_as sieve.lo nine.los ∙ sym place.0.axes) (long_as sieve.step nine.steps ∙ sym place.0.axes) zeros ones in
          ap (λ q. pick (coordinates_of lens q)) here
          ∙ (λ i. slice_index_or a.numbers (place_of (same i) (plain i)) (pos 0))
          ∙ ap (λ q. slice_index_or a.numbers q (pos 0)) place.1
