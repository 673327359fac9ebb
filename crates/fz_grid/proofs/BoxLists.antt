-- Boxes of places, as lists, by the laws of places.
use Rattle.std.proofs.Common.{◌≡◌, ℕ, suc, zero, ◌+◌, ◌*◌, ◌<◌, true, ◌&&◌, List, [], ◌∷◌, length, get_or, map, refl, ap, sym, ◌∙◌, arith}
use Rattle.std.specs.List.{range_with_len}
use Rattle.std.proofs.lemmas.Bool.{false≢true, lt-ltb}
use Rattle.std.proofs.lemmas.List.{length-map}
use Rattle.std.proofs.lemmas.List.FromFn.{get_or-map-range_with_len, length-map-range_with_len}
use Rattle.std.proofs.lemmas.Simd.{map-map}
use Rattle.fz_grid.specs.Arrays.{AreCoordinatesOf, coordinates_of, place_of, product}
use Rattle.fz_grid.specs.Grid.{box_coordinates, moved}
use Rattle.fz_grid.specs.Laws.{BoxesAreInOrder, NumbersHavePlaces, PlacesAreInside, PlacesHaveCoordinates}
use Rattle.fz_grid.specs.Overlap.{IsInBox, has_pixel}
use Rattle.fz_grid.proofs.Neighbours.{map_range_same}

-- the laws of places
pub record PlaceLaws : Type 0 where
  pub inside : PlacesAreInside
  pub coordinates : PlacesHaveCoordinates
  pub numbers : NumbersHavePlaces
  pub order : BoxesAreInOrder

pub front_below : (n c : ℕ) (ns cs : List ℕ) → AreCoordinatesOf (n ∷ ns) (c ∷ cs) → c < n
front_below n c ns cs are = are.below zero (omega arith)

pub rest_below : (n c : ℕ) (ns cs : List ℕ) → AreCoordinatesOf (n ∷ ns) (c ∷ cs) → AreCoordinatesOf ns cs
rest_below n c ns cs are = record { axes = omega (arith, are.axes); below = λ i h. are.below (suc i) (omega arith) }

pub both_below : (n c : ℕ) (ns cs : List ℕ) → c < n → AreCoordinatesOf ns cs → AreCoordinatesOf (n ∷ ns) (c ∷ cs)
both_below n c ns cs front rest = record { axes = omega (arith, rest.axes); below = each }
  where
    each : (i : ℕ) → i < length (n ∷ ns) → get_or (c ∷ cs) i 0 < get_or (n ∷ ns) i 0
    each zero h = front
    each (suc i) h = rest.below i (omega arith)

-- two lists that are made of the places of a box
pub box_same : {X : Type 0} (laws : PlaceLaws) (f g : List ℕ → X) (rs : List ℕ) → ((ks : List ℕ) → AreCoordinatesOf rs ks → f ks ≡ g ks) → map f (box_coordinates rs) ≡ map g (box_coordinates rs)
box_same laws f g rs same =
    let numbers = range_with_len 0 (product rs) in
    let each = map_range_same (λ p. f (coordinates_of rs p)) (λ p. g (coordinates_of rs p)) 0 0 (product rs) (λ i h.
    same (coordinates_of rs (0 + i)) (laws.numbers rs (0 + i) (omega arith)).0) in
    ap (map f) (laws.order rs)
    ∙ (map-map f (coordinates_of rs) numbers
    ∙ (each ∙ (sym (map-map g (coordinates_of rs) numbers) ∙ ap (map g) (sym (laws.order rs)))))

-- what a list that is made of a box has by number
pub box_nth : {X : Type 0} (laws : PlaceLaws) (f : List ℕ → X) (rs : List ℕ) (p : ℕ) (d : X) → p < product rs → get_or (map f (box_coordinates rs)) p d ≡ f (coordinates_of rs p)
box_nth laws f rs p d below =
    ap (λ l. get_or (map f l) p d) (laws.order rs)
    ∙ (ap (λ l. get_or l p d) (map-map f (coordinates_of rs) (range_with_len 0 (product rs)))
    ∙ get_or-map-range_with_len (λ q. f (coordinates_of rs q)) 0 (product rs) p p d below (omega arith))

-- and by place
pub box_at : {X : Type 0} (laws : PlaceLaws) (f : List ℕ → X) (rs ks : List ℕ) (d : X) → AreCoordinatesOf rs ks → get_or (map f (box_coordinates rs)) (place_of rs ks) d ≡ f ks
box_at laws f rs ks d are =
    box_nth laws f rs (place_of rs ks) d (laws.inside rs ks are) ∙ ap f (laws.coordinates rs ks are)

pub box_length : {X : Type 0} (laws : PlaceLaws) (f : List ℕ → X) (rs : List ℕ) → length (map f (box_coordinates rs)) ≡ product rs
box_length laws f rs =
    length-map (box_coordinates rs) f ∙ (ap length (laws.order rs) ∙ length-map-range_with_len (coordinates_of rs) 0 (product rs))

-- coordinates that are counted from a corner
pub moved_length : (os cs : List ℕ) → length cs ≡ length os → length (moved os cs) ≡ length os
moved_length [] cs same = refl
moved_length (o ∷ os) [] same = absurd (omega arith)
moved_length (o ∷ os) (c ∷ cs) same = ap suc (moved_length os cs (omega arith))

pub moved_at : (os cs : List ℕ) (i : ℕ) → length cs ≡ length os → i < length os → get_or (moved os cs) i 0 ≡ get_or os i 0 + get_or cs i 0
moved_at [] cs i same h = absurd (omega arith)
moved_at (o ∷ os) [] i same h = absurd (omega arith)
moved_at (o ∷ os) (c ∷ cs) zero same h = refl
moved_at (o ∷ os) (c ∷ cs) (suc i) same h = moved_at os cs i (omega arith) (omega arith)

pub moved_box : (cs ns es : List ℕ) → length ns ≡ length cs → AreCoordinatesOf ns es → IsInBox cs ns (moved cs es)
moved_box cs ns es same are =
    let long : length es ≡ length cs = omega (arith, are.axes) in
    record {
      axes = moved_length cs es long;
      from = λ i h. omega (arith, moved_at cs es i long h);
      before = λ i h. omega (arith, moved_at cs es i long h, are.below i (omega arith));
    }

pub moved_same : (fs ks js : List ℕ) → length ks ≡ length fs → length js ≡ length fs → moved fs ks ≡ moved fs js → ks ≡ js
moved_same [] [] [] of_ks of_js same = refl
moved_same [] (k ∷ ks) js of_ks of_js same = absurd (omega arith)
moved_same [] [] (j ∷ js) of_ks of_js same = absurd (omega arith)
moved_same (f ∷ fs) [] js of_ks of_js same = absurd (omega arith)
moved_same (f ∷ fs) (k ∷ ks) [] of_ks of_js same = absurd (omega arith)
moved_same (f ∷ fs) (k ∷ ks) (j ∷ js) of_ks of_js same =
    let front : f + k ≡ f + j = ap (λ l. get_or l 0 0) same in
    let front_same : k ≡ j = omega (arith, front) in
    ap (λ x. x ∷ ks) front_same ∙ ap (λ l. j ∷ l) (moved_same fs ks js (omega arith) (omega arith) (ap rest same))
  where
    rest : List ℕ → List ℕ
    rest [] = []
    rest (x ∷ xs) = xs

-- a box with a place has a pixel along each axis, and with one along each axis it has a place
pub some_pixel : (rs : List ℕ) (p : ℕ) → p < product rs → has_pixel rs ≡ true
some_pixel [] p below = refl
some_pixel (zero ∷ rs) p below = absurd (omega arith)
some_pixel (suc r ∷ rs) p below = ap (λ b. b && has_pixel rs) (lt-ltb 0 (suc r) (omega arith)) ∙ some_pixel rs 0 (factor (suc r) (product rs) below)
  where
    factor : (n m : ℕ) → p < n * m → 0 < m
    factor n zero h = absurd (omega arith)
    factor n (suc m) h = omega arith

pub some_place : (rs : List ℕ) → has_pixel rs ≡ true → 0 < product rs
some_place [] has = omega arith
some_place (zero ∷ rs) has = absurd (false≢true has)
some_place (suc r ∷ rs) has = product_some (suc r) (product rs) (omega arith) (some_place rs (sym (ap (λ b. b && has_pixel rs) (lt-ltb 0 (suc r) (omega arith))) ∙ has))
  where
    product_some : (n m : ℕ) → 0 < n → 0 < m → 0 < n * m
    product_some (suc n) (suc m) of_n of_m = omega arith
    product_some zero m of_n of_m = absurd (omega arith)
    product_some (suc n) zero of_n of_m = absurd (omega arith)
