-- The tiles that a box touches, axis by axis.
use Rattle.std.proofs.Common.{◌≡◌, ℕ, suc, zero, ◌+◌, ◌-◌, ◌/◌, ◌<◌, ◌≤◌, List, [], ◌∷◌, length, get_or, take, drop, refl, ap, ◌∙◌, arith}
use Rattle.std.proofs.lemmas.Nat.{div-add-mod', le-div, mod_below}
use Rattle.std.proofs.Math.Nat.{div-lt_iff_lt-mul}
use Rattle.fz_grid.specs.Grid.{tile_counts}
use Rattle.fz_grid.specs.Span.{first_tiles, touched_counts}
use Rattle.fz_grid.proofs.BoxLemmas.{IsBox, box_tail}
use Rattle.fz_grid.proofs.GridLemmas.{tiles_on}
use Rattle.fz_grid.proofs.Lists.{rest_more}
use Rattle.fz_grid.proofs.Tilings.{IsCut, counts_length, cut_tail}

pub first_more : (os ts : List ℕ) (n m i j : ℕ) → i < n → n ≤ length os → i < m → m ≤ length ts → i + 1 ≡ j → first_tiles (drop i (take n os)) (drop i (take m ts)) ≡ (get_or os i 0 / get_or ts i 0) ∷ first_tiles (drop j (take n os)) (drop j (take m ts))
first_more os ts n m i j below inside below' inside' next =
    let at_os = rest_more os n i j below inside next in
    let at_ts = rest_more ts m i j below' inside' next in
    ap (λ l. first_tiles l (drop i (take m ts))) at_os ∙ ap (first_tiles (get_or os i 0 ∷ drop j (take n os))) at_ts

pub touched_more : (os rs ts : List ℕ) (n m i j : ℕ) → i < n → n ≤ length os → n ≤ length rs → i < m → m ≤ length ts → i + 1 ≡ j → touched_counts (drop i (take n os)) (drop i (take n rs)) (drop i (take m ts)) ≡ ((get_or os i 0 + (get_or rs i 0 - 1)) / get_or ts i 0 - get_or os i 0 / get_or ts i 0 + 1) ∷ touched_counts (drop j (take n os)) (drop j (take n rs)) (drop j (take m ts))
touched_more os rs ts n m i j below inside_os inside_rs below' inside' next =
    let at_os = rest_more os n i j below inside_os next in
    let at_rs = rest_more rs n i j below inside_rs next in
    let at_ts = rest_more ts m i j below' inside' next in
    ap (λ l. touched_counts l (drop i (take n rs)) (drop i (take m ts))) at_os
    ∙ (ap (λ l. touched_counts (get_or os i 0 ∷ drop j (take n os)) l (drop i (take m ts))) at_rs
    ∙ ap (touched_counts (get_or os i 0 ∷ drop j (take n os)) (get_or rs i 0 ∷ drop j (take n rs))) at_ts)

-- the last tile that is touched is one of the axis's tiles
pub last_inside : (n t o r : ℕ) → 0 < t → 0 < r → o + r ≤ n → (o + (r - 1)) / t < tiles_on n t
last_inside n t o r tile some fits =
    let room = div-add-mod' (n + (t - 1)) t in
    let rest = mod_below (n + (t - 1)) t tile in
    let P = div-lt_iff_lt-mul {k = t} {x = o + (r - 1)} {y = tiles_on n t} tile in
    P.1 (omega (arith, room, rest))

pub first_before : (t o r : ℕ) → 0 < t → o / t ≤ (o + (r - 1)) / t
first_before t o r tile = le-div (o / t) (o + (r - 1)) t tile (omega (arith, div-add-mod' o t))

-- the tiles that a box touches are a box of the grid
pub touched_is_box : (ns ts os rs : List ℕ) → IsCut ns ts → IsBox ns os rs → IsBox (tile_counts ns ts) (first_tiles os ts) (touched_counts os rs ts)
touched_is_box ns ts os rs cut box =
    record {
      same_corner = first_length ns ts os rs cut box;
      same_lengths = touched_length ns ts os rs cut box;
      positive = λ i h. (touched_at ns ts os rs cut box i (omega (arith, counts_length ns ts cut.same))).0;
      inside = λ i h. (touched_at ns ts os rs cut box i (omega (arith, counts_length ns ts cut.same))).1;
    }
  where
    first_length : (ns ts os rs : List ℕ) → IsCut ns ts → IsBox ns os rs → length (first_tiles os ts) ≡ length (tile_counts ns ts)
    first_length [] ts [] rs cut box = refl
    first_length [] ts (o ∷ os) rs cut box = absurd (omega (arith, box.same_corner))
    first_length (n ∷ ns) ts [] rs cut box = absurd (omega (arith, box.same_corner))
    first_length (n ∷ ns) [] (o ∷ os) rs cut box = absurd (omega (arith, cut.same))
    first_length (n ∷ ns) (t ∷ ts) (o ∷ os) [] cut box = absurd (omega (arith, box.same_lengths))
    first_length (n ∷ ns) (t ∷ ts) (o ∷ os) (r ∷ rs) cut box = ap suc (first_length ns ts os rs (cut_tail n t ns ts cut) (box_tail n o r ns os rs box))

    touched_length : (ns ts os rs : List ℕ) → IsCut ns ts → IsBox ns os rs → length (touched_counts os rs ts) ≡ length (tile_counts ns ts)
    touched_length [] ts [] rs cut box = refl
    touched_length [] ts (o ∷ os) rs cut box = absurd (omega (arith, box.same_corner))
    touched_length (n ∷ ns) ts [] rs cut box = absurd (omega (arith, box.same_corner))
    touched_length (n ∷ ns) [] (o ∷ os) rs cut box = absurd (omega (arith, cut.same))
    touched_length (n ∷ ns) (t ∷ ts) (o ∷ os) [] cut box = absurd (omega (arith, box.same_lengths))
    touched_length (n ∷ ns) (t ∷ ts) (o ∷ os) (r ∷ rs) cut box = ap suc (touched_length ns ts os rs (cut_tail n t ns ts cut) (box_tail n o r ns os rs box))

    touched_at : (ns ts os rs : List ℕ) → IsCut ns ts → IsBox ns os rs → (i : ℕ) → i < length ns → (1 ≤ get_or (touched_counts os rs ts) i 0) × (get_or (first_tiles os ts) i 0 + get_or (touched_counts os rs ts) i 0 ≤ get_or (tile_counts ns ts) i 0)
    touched_at [] ts os rs cut box i h = absurd (omega arith)
    touched_at (n ∷ ns) ts [] rs cut box i h = absurd (omega (arith, box.same_corner))
    touched_at (n ∷ ns) [] (o ∷ os) rs cut box i h = absurd (omega (arith, cut.same))
    touched_at (n ∷ ns) (t ∷ ts) (o ∷ os) [] cut box i h = absurd (omega (arith, box.same_lengths))
    touched_at (n ∷ ns) (t ∷ ts) (o ∷ os) (r ∷ rs) cut box zero h =
        let last = last_inside n t o r (cut.positive zero (omega arith)) (box.positive zero (omega arith)) (box.inside zero (omega arith)) in
        let order = first_before t o r (cut.positive zero (omega arith)) in
        (omega arith, omega (arith, last, order))
    touched_at (n ∷ ns) (t ∷ ts) (o ∷ os) (r ∷ rs) cut box (suc i) h =
        touched_at ns ts os rs (cut_tail n t ns ts cut) (box_tail n o r ns os rs box) i (omega arith)
