-- The tiles that share a pixel with a box are the places of the box of tiles that it touches.
use Rattle.std.proofs.Common.{◌≡◌, ℕ, zero, ◌+◌, ◌-◌, ◌*◌, ◌/◌, ◌%◌, ◌<◌, ◌≤◌, max, min, Bool, false, ◌&&◌, ltb, List, [], ◌∷◌, map, refl, ap, sym, ◌∙◌, arith}
use Rattle.std.specs.List.{filter, flat_map, range_with_len}
use Rattle.std.proofs.lemmas.Bool.{lt-ltb}
use Rattle.std.proofs.lemmas.Nat.{div-add-mod', mod_below}
use Rattle.std.proofs.Math.Nat.{mul-le-mul_right}
use Rattle.fz_grid.specs.Arrays.{product}
use Rattle.fz_grid.specs.Grid.{tile_counts}
use Rattle.fz_grid.specs.Overlap.{has_pixel, overlapping_tiles, shared_lengths}
use Rattle.fz_grid.specs.Region.{places_of}
use Rattle.fz_grid.specs.Span.{first_tiles, touched_counts}
use Rattle.fz_grid.proofs.BoxLemmas.{IsBox, box_tail, places_rows}
use Rattle.fz_grid.proofs.Filters.{filter_between, filter_rows}
use Rattle.fz_grid.proofs.GridLemmas.{count_pos, tiles_on}
use Rattle.fz_grid.proofs.Ranges.{flat_map_same, map_range_same}
use Rattle.fz_grid.proofs.SpanLemmas.{first_before, last_inside}
use Rattle.fz_grid.proofs.Tilings.{IsCut, cut_tail}

-- how many pixels of an axis tile d has in common with r of them from o on
abbrev pub shared_on : ℕ → ℕ → ℕ → ℕ → ℕ → ℕ
shared_on n t o r d = min (o + r) (d * t + min t (n - d * t)) - max o (d * t)

ltb_none : (x : ℕ) → x ≡ 0 → ltb 0 x ≡ false
ltb_none x none = ap (ltb 0) none

-- the tile before the first that is touched ends before the box
shared_before : (n t o r d : ℕ) → d < o / t → shared_on n t o r d ≡ 0
shared_before n t o r d before =
    let least : (d + 1) * t ≤ o / t * t = mul-le-mul_right t (omega arith) in
    omega (arith, least, div-add-mod' o t)

-- a tile after the last begins after the box
shared_after : (n t o r d : ℕ) → 0 < t → 0 < r → (o + (r - 1)) / t < d → shared_on n t o r d ≡ 0
shared_after n t o r d tile some after =
    let least : ((o + (r - 1)) / t + 1) * t ≤ d * t = mul-le-mul_right t (omega arith) in
    omega (arith, least, div-add-mod' (o + (r - 1)) t, mod_below (o + (r - 1)) t tile)

-- and one between them shares a pixel
shared_between : (n t o r d : ℕ) → 0 < t → 0 < r → o + r ≤ n → o / t ≤ d → d ≤ (o + (r - 1)) / t → 0 < shared_on n t o r d
shared_between n t o r d tile some fits from to =
    let low : o / t * t ≤ d * t = mul-le-mul_right t from in
    let high : d * t ≤ (o + (r - 1)) / t * t = mul-le-mul_right t to in
    omega (arith, low, high, div-add-mod' o t, mod_below o t tile, div-add-mod' (o + (r - 1)) t)

-- the tiles of one axis that share a pixel with the box
axis_tiles : (n t o r : ℕ) → 0 < t → 0 < r → o + r ≤ n → filter (λ d. ltb 0 (shared_on n t o r d)) (range_with_len 0 (tiles_on n t)) ≡ range_with_len (o / t) ((o + (r - 1)) / t - o / t + 1)
axis_tiles n t o r tile some fits =
    let order = first_before t o r tile in
    let inside = last_inside n t o r tile some fits in
    filter_between (λ d. ltb 0 (shared_on n t o r d)) (o / t) ((o + (r - 1)) / t - o / t + 1) (tiles_on n t) (omega (arith, order, inside))
    (λ d h. ltb_none (shared_on n t o r d) (shared_before n t o r d h))
    (λ d from to. lt-ltb 0 (shared_on n t o r d) (shared_between n t o r d tile some fits from (omega (arith, order))))
    (λ d from to. ltb_none (shared_on n t o r d) (shared_after n t o r d tile some (omega (arith, order))))

pub tiles_are_touched : (ns ts os rs : List ℕ) → IsCut ns ts → IsBox ns os rs → overlapping_tiles ns ts os rs ≡ places_of (tile_counts ns ts) (first_tiles os ts) (touched_counts os rs ts)
tiles_are_touched [] ts [] rs cut box = refl
tiles_are_touched [] ts (o ∷ os) rs cut box = absurd (omega (arith, box.same_corner))
tiles_are_touched (n ∷ ns) ts [] rs cut box = absurd (omega (arith, box.same_corner))
tiles_are_touched (n ∷ ns) [] (o ∷ os) rs cut box = absurd (omega (arith, cut.same))
tiles_are_touched (n ∷ ns) (t ∷ ts) (o ∷ os) [] cut box = absurd (omega (arith, box.same_lengths))
tiles_are_touched (n ∷ ns) (t ∷ ts) (o ∷ os) (r ∷ rs) cut box =
    let tile = cut.positive zero (omega arith) in
    let some = box.positive zero (omega arith) in
    let fits = box.inside zero (omega arith) in
    let g = tiles_on n t in
    let f = o / t in
    let s = (o + (r - 1)) / t - o / t + 1 in
    let rest = product (tile_counts ns ts) in
    let column : ℕ → Bool = λ d. ltb 0 (shared_on n t o r d) in
    let row : ℕ → Bool = λ q. has_pixel (shared_lengths ns ts os rs q) in
    let test : ℕ → Bool = λ k. column (k % g) && row (k / g) in
    let whole : g * rest ≡ rest * g = omega arith in
    let start : 0 ≡ 0 * g = omega arith in
    let by_rows = filter_rows column row g 0 rest (count_pos n t tile (cut.some zero (omega arith))) in
    let in_axis = axis_tiles n t o r tile some fits in
    let higher = tiles_are_touched ns ts os rs (cut_tail n t ns ts cut) (box_tail n o r ns os rs box) in
    let tiles = places_of (tile_counts ns ts) (first_tiles os ts) (touched_counts os rs ts) in
    let turned : (q : ℕ) → map (λ c. c + q * g) (range_with_len f s) ≡ map (λ c. f + c + g * q) (range_with_len 0 s) =
    λ q. map_range_same (λ c. c + q * g) (λ c. f + c + g * q) f 0 s (λ i h. omega arith) in
    ap (λ m. filter test (range_with_len 0 m)) whole
    ∙ (ap (λ a. filter test (range_with_len a (rest * g))) start
    ∙ (by_rows
    ∙ (ap (λ l. flat_map (λ q. map (λ c. c + q * g) l) (filter row (range_with_len 0 rest))) in_axis
    ∙ (ap (flat_map (λ q. map (λ c. c + q * g) (range_with_len f s))) higher
    ∙ (flat_map_same (λ q. map (λ c. c + q * g) (range_with_len f s)) (λ q. map (λ c. f + c + g * q) (range_with_len 0 s)) tiles turned
    ∙ sym (places_rows g f s (tile_counts ns ts) (first_tiles os ts) (touched_counts os rs ts)))))))
