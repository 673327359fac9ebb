-- A line of a box, along axis 1, is a part of a line of the array (FITS 4.0, section 3.3.2).
use Rattle.std.proofs.Common.{◌≡◌, ℕ, zero, suc, ◌+◌, ◌-◌, ◌*◌, ◌<◌, ◌≤◌, ℤ, pos, List, [], ◌∷◌, length, map, take, drop, replicate, get_or, refl, sym, ap, ◌∙◌, arith}
use Rattle.std.specs.Prelude.{⊤, slice_index}
use Rattle.std.specs.List.{range_with_len}
use Rattle.std.proofs.lemmas.List.{get_or-drop, get_or-map, get_or-take, get_or_default, length-drop, length-map, length-take, same_lists}
use Rattle.std.proofs.lemmas.List.FromFn.{get_or-map-range_with_len, length-map-range_with_len}
use Rattle.fz_grid.specs.Arrays.{AreCoordinatesOf, IsArray, NumberArray, at, coordinates_of, place_of, product}
use Rattle.fz_grid.specs.Grid.{box_coordinates}
use Rattle.fz_grid.specs.Laws.{BoxesAreInOrder, PlacesAreInside, PlacesHaveCoordinates}
use Rattle.fz_grid.specs.Sieve.{sieve_lengths, sieve_lo, sieve_step, stepped}
use Rattle.fz_grid.specs.declared.sieve.Sieve.{Sieve}
use Rattle.fz_grid.specs.Cutout.{picked_numbers}
use Rattle.fz_look.specs.Boxes.{from_corner}

-- along each axis of an array a box, with its corner and its lengths, has this coordinate
abbrev pub IsIn : List ℕ → List ℕ → List ℕ → List ℕ → Type 0
IsIn [] [] [] [] = ⊤
IsIn [] [] [] (c ∷ cs) = ⊥
IsIn [] [] (m ∷ ms) cs = ⊥
IsIn [] (o ∷ os) ms cs = ⊥
IsIn (l ∷ ls) [] ms cs = ⊥
IsIn (l ∷ ls) (o ∷ os) [] cs = ⊥
IsIn (l ∷ ls) (o ∷ os) (m ∷ ms) [] = ⊥
IsIn (l ∷ ls) (o ∷ os) (m ∷ ms) (c ∷ cs) = (o ≤ c) × (c < o + m) × (o + m ≤ l) × IsIn ls os ms cs

-- ---- coordinates

below_both : (x y : ℕ) (xs ys : List ℕ) → x < y → ((i : ℕ) → i < length ys → slice_index xs i < slice_index ys i) → (i : ℕ) → i < length (y ∷ ys) → slice_index (x ∷ xs) i < slice_index (y ∷ ys) i
below_both x y xs ys first rest zero low = first
below_both x y xs ys first rest (suc i) low = rest i (omega (arith, low))

more_axes : (x y : ℕ) (xs ys : List ℕ) → x < y → AreCoordinatesOf ys xs → AreCoordinatesOf (y ∷ ys) (x ∷ xs)
more_axes x y xs ys first are = record { axes = omega (arith, are.axes); below = below_both x y xs ys first are.below }

-- those of the array
in_array : (ls os ms cs : List ℕ) → IsIn ls os ms cs → AreCoordinatesOf ls cs
in_array [] [] [] [] is = record { axes = refl; below = λ i low. absurd (omega (arith, low)) }
in_array [] [] [] (c ∷ cs) is = absurd is
in_array [] [] (m ∷ ms) cs is = absurd is
in_array [] (o ∷ os) ms cs is = absurd is
in_array (l ∷ ls) [] ms cs is = absurd is
in_array (l ∷ ls) (o ∷ os) [] cs is = absurd is
in_array (l ∷ ls) (o ∷ os) (m ∷ ms) [] is = absurd is
in_array (l ∷ ls) (o ∷ os) (m ∷ ms) (c ∷ cs) is = more_axes c l cs ls (omega (arith, is.1, is.2)) (in_array ls os ms cs is.3)

-- and those of the box
in_box : (ls os ms cs : List ℕ) → IsIn ls os ms cs → AreCoordinatesOf ms (from_corner os cs)
in_box [] [] [] [] is = record { axes = refl; below = λ i low. absurd (omega (arith, low)) }
in_box [] [] [] (c ∷ cs) is = absurd is
in_box [] [] (m ∷ ms) cs is = absurd is
in_box [] (o ∷ os) ms cs is = absurd is
in_box (l ∷ ls) [] ms cs is = absurd is
in_box (l ∷ ls) (o ∷ os) [] cs is = absurd is
in_box (l ∷ ls) (o ∷ os) (m ∷ ms) [] is = absurd is
in_box (l ∷ ls) (o ∷ os) (m ∷ ms) (c ∷ cs) is = more_axes (c - o) m (from_corner os cs) ms (omega (arith, is.0, is.1)) (in_box ls os ms cs is.3)

-- steps of 1 from the corner on
one_step : (o c : ℕ) → o ≤ c → o + (c - o) * 1 ≡ c
one_step o c less = omega (arith, less)

from_there : (ls os ms cs : List ℕ) → IsIn ls os ms cs → stepped os (replicate (length os) 1) (from_corner os cs) ≡ cs
from_there [] [] [] [] is = refl
from_there [] [] [] (c ∷ cs) is = absurd is
from_there [] [] (m ∷ ms) cs is = absurd is
from_there [] (o ∷ os) ms cs is = absurd is
from_there (l ∷ ls) [] ms cs is = absurd is
from_there (l ∷ ls) (o ∷ os) [] cs is = absurd is
from_there (l ∷ ls) (o ∷ os) (m ∷ ms) [] is = absurd is
from_there (l ∷ ls) (o ∷ os) (m ∷ ms) (c ∷ cs) is =
    let rest : stepped os (replicate (length os) 1) (from_corner os cs) ≡ cs = from_there ls os ms cs is.3 in
    let first : o + (c - o) * 1 ≡ c = one_step o c is.0 in
    λ i. first i ∷ rest i

-- ---- further along axis 1

module _ (l o m c : ℕ) (ls os ms cs : List ℕ) where
  -- the numbers of a pixel in the box and in the array
  abbrev box_place : ℕ → ℕ
  box_place x = place_of (m ∷ ms) (from_corner (o ∷ os) (x ∷ cs))

  abbrev place : ℕ → ℕ
  place x = place_of (l ∷ ls) (x ∷ cs)

  on : (j : ℕ) → c + j < o + m → IsIn (l ∷ ls) (o ∷ os) (m ∷ ms) (c ∷ cs) → IsIn (l ∷ ls) (o ∷ os) (m ∷ ms) ((c + j) ∷ cs)
  on j low is = (omega (arith, is.0), low, is.2, is.3)

  add_box : (x y : ℕ) (j : ℕ) → o ≤ x → (x - o + y) + j ≡ x + j - o + y
  add_box x y j less = omega (arith, less)

  box_place_on : (j : ℕ) → o ≤ c → box_place c + j ≡ box_place (c + j)
  box_place_on j less = add_box c (m * place_of ms (from_corner os cs)) j less

  add_array : (x y j : ℕ) → (x + y) + j ≡ x + j + y
  add_array x y j = omega arith

  place_on : (j : ℕ) → place c + j ≡ place (c + j)
  place_on j = add_array c (l * place_of ls cs) j

  -- both lines end in their arrays
  box_room : PlacesAreInside → (k : ℕ) → c + k ≤ o + m → IsIn (l ∷ ls) (o ∷ os) (m ∷ ms) (c ∷ cs) → box_place c + k ≤ product (m ∷ ms)
  box_room inside zero few is =
      let there : box_place c < product (m ∷ ms) = inside (m ∷ ms) (from_corner (o ∷ os) (c ∷ cs)) (in_box (l ∷ ls) (o ∷ os) (m ∷ ms) (c ∷ cs) is) in
      omega (arith, there)
  box_room inside (suc k) few is =
      let there : box_place (c + k) < product (m ∷ ms) = inside (m ∷ ms) (from_corner (o ∷ os) ((c + k) ∷ cs)) (in_box (l ∷ ls) (o ∷ os) (m ∷ ms) ((c + k) ∷ cs) (on k (omega (arith, few)) is)) in
      let same : box_place c + k ≡ box_place (c + k) = box_place_on k is.0 in
      omega (arith, there, same)

  room : PlacesAreInside → (k : ℕ) → c + k ≤ o + m → IsIn (l ∷ ls) (o ∷ os) (m ∷ ms) (c ∷ cs) → place c + k ≤ product (l ∷ ls)
  room inside zero few is =
      let there : place c < product (l ∷ ls) = inside (l ∷ ls) (c ∷ cs) (in_array (l ∷ ls) (o ∷ os) (m ∷ ms) (c ∷ cs) is) in
      omega (arith, there)
  room inside (suc k) few is =
      let there : place (c + k) < product (l ∷ ls) = inside (l ∷ ls) ((c + k) ∷ cs) (in_array (l ∷ ls) (o ∷ os) (m ∷ ms) ((c + k) ∷ cs) (on k (omega (arith, few)) is)) in
      let same : place c + k ≡ place (c + k) = place_on k in
      omega (arith, there, same)

pub room_all : PlacesAreInside → (ls os ms cs : List ℕ) → 1 ≤ length ls → IsIn ls os ms cs → (k : ℕ) → slice_index cs 0 + k ≤ slice_index os 0 + slice_index ms 0 → place_of ms (from_corner os cs) + k ≤ product ms
room_all inside [] os ms cs some is k few = absurd (omega (arith, some))
room_all inside (l ∷ ls) [] ms cs some is k few = absurd is
room_all inside (l ∷ ls) (o ∷ os) [] cs some is k few = absurd is
room_all inside (l ∷ ls) (o ∷ os) (m ∷ ms) [] some is k few = absurd is
room_all inside (l ∷ ls) (o ∷ os) (m ∷ ms) (c ∷ cs) some is k few = box_room l o m c ls os ms cs inside k few is

pub room_array : PlacesAreInside → (ls os ms cs : List ℕ) → 1 ≤ length ls → IsIn ls os ms cs → (k : ℕ) → slice_index cs 0 + k ≤ slice_index os 0 + slice_index ms 0 → place_of ls cs + k ≤ product ls
room_array inside [] os ms cs some is k few = absurd (omega (arith, some))
room_array inside (l ∷ ls) [] ms cs some is k few = absurd is
room_array inside (l ∷ ls) (o ∷ os) [] cs some is k few = absurd is
room_array inside (l ∷ ls) (o ∷ os) (m ∷ ms) [] some is k few = absurd is
room_array inside (l ∷ ls) (o ∷ os) (m ∷ ms) (c ∷ cs) some is k few = room l o m c ls os ms cs inside k few is

-- ---- numbers of the box

module _ (inside : PlacesAreInside) (coords : PlacesHaveCoordinates) (order : BoxesAreInOrder) (a : NumberArray) (s : Sieve) where
  pub picked_len : (lens : List ℕ) → sieve_lengths s ≡ lens → length (picked_numbers a s) ≡ product lens
  picked_len lens are =
      length-map (box_coordinates (sieve_lengths s)) (λ k. at a (stepped (sieve_lo s) (sieve_step s) k))
      ∙ ap length (ap box_coordinates are ∙ order lens) ∙ length-map-range_with_len (coordinates_of lens) 0 (product lens)

  -- the number at a place of the box
  picked_at : (los steps lens : List ℕ) → sieve_lo s ≡ los → sieve_step s ≡ steps → sieve_lengths s ≡ lens → (q : ℕ) (d : ℤ) → q < product lens →
      get_or (picked_numbers a s) q d ≡ at a (stepped los steps (coordinates_of lens q))
  picked_at los steps lens lo step are q d low =
      let F : List ℕ → ℤ = λ k. at a (stepped (sieve_lo s) (sieve_step s) k) in
      let boxes : box_coordinates (sieve_lengths s) ≡ map (coordinates_of lens) (range_with_len 0 (product lens)) = ap box_coordinates are ∙ order lens in
      let long : length (map (coordinates_of lens) (range_with_len 0 (product lens))) ≡ product lens = length-map-range_with_len (coordinates_of lens) 0 (product lens) in
      ap (λ l. get_or (map F l) q d) boxes
      ∙ get_or-map F (map (coordinates_of lens) (range_with_len 0 (product lens))) q [] d (omega (arith, long, low))
      ∙ ap F (get_or-map-range_with_len (coordinates_of lens) 0 (product lens) q q [] low (omega arith))
      ∙ (λ i. at a (stepped (lo i) (step i) (coordinates_of lens q)))

  module _ (l o m c : ℕ) (ls os ms cs : List ℕ) (lengths : a.lengths ≡ l ∷ ls) (whole : IsArray a) (lo : sieve_lo s ≡ o ∷ os) (step : sieve_step s ≡ replicate (suc (length os)) 1) (lens : sieve_lengths s ≡ m ∷ ms) where
    number_there : (j : ℕ) (d : ℤ) → c + j < o + m → IsIn (l ∷ ls) (o ∷ os) (m ∷ ms) (c ∷ cs) →
        get_or (picked_numbers a s) (box_place l o m c ls os ms cs c + j) d ≡ get_or a.numbers (place l o m c ls os ms cs c + j) (pos 0)
    number_there j d low is =
        let there = on l o m c ls os ms cs j low is in
        let here : List ℕ = from_corner (o ∷ os) ((c + j) ∷ cs) in
        let below : place_of (m ∷ ms) here < product (m ∷ ms) = inside (m ∷ ms) here (in_box (l ∷ ls) (o ∷ os) (m ∷ ms) ((c + j) ∷ cs) there) in
        let back : coordinates_of (m ∷ ms) (place_of (m ∷ ms) here) ≡ here = coords (m ∷ ms) here (in_box (l ∷ ls) (o ∷ os) (m ∷ ms) ((c + j) ∷ cs) there) in
        ap (λ q. get_or (picked_numbers a s) q d) (box_place_on l o m c ls os ms cs j is.0)
        ∙ picked_at (o ∷ os) (replicate (suc (length os)) 1) (m ∷ ms) lo step lens (place_of (m ∷ ms) here) d below
        ∙ ap (λ k. at a (stepped (o ∷ os) (replicate (suc (length os)) 1) k)) back
        ∙ ap (at a) (from_there (l ∷ ls) (o ∷ os) (m ∷ ms) ((c + j) ∷ cs) there)
        ∙ ap (λ k. get_or a.numbers (place_of k ((c + j) ∷ cs)) (pos 0)) lengths
        ∙ ap (λ q. get_or a.numbers q (pos 0)) (sym (place_on l o m c ls os ms cs j))

    -- k numbers of the line from there on
    line_is : (k : ℕ) → c + k ≤ o + m → IsIn (l ∷ ls) (o ∷ os) (m ∷ ms) (c ∷ cs) →
        take k (drop (box_place l o m c ls os ms cs c) (picked_numbers a s)) ≡ take k (drop (place l o m c ls os ms cs c) a.numbers)
    line_is k few is =
        let p : ℕ = box_place l o m c ls os ms cs c in
        let q : ℕ = place l o m c ls os ms cs c in
        let front : List ℤ = take k (drop p (picked_numbers a s)) in
        let back : List ℤ = take k (drop q a.numbers) in
        let all : length (picked_numbers a s) ≡ product (m ∷ ms) = picked_len (m ∷ ms) lens in
        let every : length a.numbers ≡ product (l ∷ ls) = whole ∙ ap product lengths in
        let near_box : p + k ≤ product (m ∷ ms) = box_room l o m c ls os ms cs inside k few is in
        let near_array : q + k ≤ product (l ∷ ls) = room l o m c ls os ms cs inside k few is in
        let one : length front ≡ k = omega (arith, length-take k (drop p (picked_numbers a s)), length-drop p (picked_numbers a s), all, near_box) in
        let two : length back ≡ k = omega (arith, length-take k (drop q a.numbers), length-drop q a.numbers, every, near_array) in
        same_lists front back (one ∙ sym two) (λ j d low.
        let near : j < k = omega (arith, one, low) in
        get_or-take k (drop p (picked_numbers a s)) j d near
        ∙ get_or-drop p (picked_numbers a s) j d
        ∙ number_there j d (omega (arith, near, few)) is
        ∙ sym (get_or-take k (drop q a.numbers) j d near ∙ get_or-drop q a.numbers j d ∙ get_or_default a.numbers (q + j) d (pos 0) (omega (arith, every, near_array, near))))

  pub line_all : (ls os ms cs : List ℕ) → 1 ≤ length ls → a.lengths ≡ ls → IsArray a → sieve_lo s ≡ os → sieve_step s ≡ replicate (length os) 1 → sieve_lengths s ≡ ms → IsIn ls os ms cs →
      (k : ℕ) → slice_index cs 0 + k ≤ slice_index os 0 + slice_index ms 0 → take k (drop (place_of ms (from_corner os cs)) (picked_numbers a s)) ≡ take k (drop (place_of ls cs) a.numbers)
  line_all [] os ms cs some lengths whole lo step lens is k few = absurd (omega (arith, some))
  line_all (l ∷ ls) [] ms cs some lengths whole lo step lens is k few = absurd is
  line_all (l ∷ ls) (o ∷ os) [] cs some lengths whole lo step lens is k few = absurd is
  line_all (l ∷ ls) (o ∷ os) (m ∷ ms) [] some lengths whole lo step lens is k few = absurd is
  line_all (l ∷ ls) (o ∷ os) (m ∷ ms) (c ∷ cs) some lengths whole lo step lens is k few = line_is l o m c ls os ms cs lengths whole lo step lens k few is
