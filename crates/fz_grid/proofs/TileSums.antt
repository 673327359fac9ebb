-- How many pixels tiles have, one by one and together.
use Rattle.std.proofs.Common.{◌≡◌, ℕ, suc, zero, ◌+◌, ◌-◌, ◌*◌, ◌/◌, ◌%◌, ◌<◌, ◌≤◌, min, List, [], ◌∷◌, length, refl, ap, sym, ◌∙◌, arith}
use Rattle.std.specs.List.{range_with_len, sum_by}
use Rattle.std.proofs.lemmas.List.Sums.{sum_by-append, sum_by-cons}
use Rattle.std.proofs.lemmas.Nat.{div-add-mod', div-mul-add, mod-mul-add, mod_below, mul-le}
use Rattle.std.proofs.Math.Nat.{zero-mod, zero-div}
use Rattle.fz_block.specs.declared.axes.Axes.{Axes}
use Rattle.fz_grid.specs.Arrays.{product}
use Rattle.fz_grid.specs.Division.{AreTileLengths}
use Rattle.fz_grid.specs.Grid.{tile_count, tile_counts, tile_lengths}
use Rattle.fz_grid.specs.Region.{IsDivided, lengths_of}
use Rattle.fz_grid.proofs.GridLemmas.{tiles_on}
use Rattle.fz_grid.proofs.Lists.{product_pos}
use Rattle.fz_grid.proofs.Ranges.{range_append}
use Rattle.fz_grid.proofs.Tilings.{lens_positive, tiling_of}
use Rattle.fz_grid.proofs.WholeLemmas.{array_positive, cut_from, positive_of}

pub divided_tiles : (shape tile : Axes) → IsDivided shape tile → AreTileLengths (lengths_of shape) (lengths_of tile)
divided_tiles shape tile divided =
    let tiling = tiling_of shape tile divided in
    record { axes = tiling.same; positive = tiling.positive }

pub tile_some : (ns ts : List ℕ) (t : ℕ) → AreTileLengths ns ts → t < tile_count ns ts → 1 ≤ product (tile_lengths ns ts t)
tile_some ns ts t tiles inside =
    product_pos (tile_lengths ns ts t) (lens_positive ns ts t (cut_from ns ts tiles (array_positive ns ts tiles (positive_of (tile_counts ns ts) t inside))))

tiles_tail : (n t : ℕ) (ns ts : List ℕ) → AreTileLengths (n ∷ ns) (t ∷ ts) → AreTileLengths ns ts
tiles_tail n t ns ts tiles = record { axes = omega (arith, tiles.axes); positive = λ i h. tiles.positive (suc i) (omega arith) }

pub tile_most : (ns ts : List ℕ) (d : ℕ) → AreTileLengths ns ts → product (tile_lengths ns ts d) ≤ product (tile_lengths ns ts 0)
tile_most [] ts d tiles = omega arith
tile_most (n ∷ ns) [] d tiles = absurd (omega (arith, tiles.axes))
tile_most (n ∷ ns) (t ∷ ts) d tiles =
    let g = tiles_on n t in
    let digit : 0 % g ≡ 0 = zero-mod g in
    let rest : 0 / g ≡ 0 = zero-div g in
    let front : min t (n - d % g * t) ≤ min t (n - 0 % g * t) = rw digit (omega arith) in
    let later : product (tile_lengths ns ts (d / g)) ≤ product (tile_lengths ns ts (0 / g)) =
    rw rest (tile_most ns ts (d / g) (tiles_tail n t ns ts tiles)) in
    mul-le (min t (n - d % g * t)) (product (tile_lengths ns ts (d / g))) (min t (n - 0 % g * t)) (product (tile_lengths ns ts (0 / g))) front later

pub tile_whole : (ns ts : List ℕ) (d : ℕ) → length ts ≡ length ns → product (tile_lengths ns ts d) ≤ product ts
tile_whole [] [] d same = omega arith
tile_whole [] (t ∷ ts) d same = absurd (omega (arith, same))
tile_whole (n ∷ ns) [] d same = absurd (omega (arith, same))
tile_whole (n ∷ ns) (t ∷ ts) d same =
    let g = tiles_on n t in
    let front : min t (n - d % g * t) ≤ t = omega arith in
    let later : product (tile_lengths ns ts (d / g)) ≤ product ts = tile_whole ns ts (d / g) (omega (arith, same)) in
    mul-le (min t (n - d % g * t)) (product (tile_lengths ns ts (d / g))) t (product ts) front later

-- the numbers of one row of g, by their places in the row
row_sum : (F H : ℕ → ℕ) (g j i n : ℕ) → i + n ≤ g → sum_by (λ d. F (d % g) * H (d / g)) (range_with_len (j * g + i) n) ≡ sum_by F (range_with_len i n) * H j
row_sum F H g j i zero within = nothing (H j)
  where
    nothing : (h : ℕ) → 0 ≡ 0 * h
    nothing h = omega arith
row_sum F H g j i (suc n) within =
    let f : ℕ → ℕ = λ d. F (d % g) * H (d / g) in
    let below : i < g = omega (arith, within) in
    let low : (j * g + i) % g ≡ i = mod-mul-add j g i below in
    let high : (j * g + i) / g ≡ j = div-mul-add j g i below in
    let next : j * g + i + 1 ≡ j * g + (i + 1) = omega arith in
    let here : f (j * g + i) ≡ F i * H j = ap (λ x. F x * H ((j * g + i) / g)) low ∙ ap (λ q. F i * H q) high in
    let later : sum_by f (range_with_len (j * g + i + 1) n) ≡ sum_by F (range_with_len (i + 1) n) * H j =
    ap (λ a. sum_by f (range_with_len a n)) next ∙ row_sum F H g j (i + 1) n (omega (arith, within)) in
    sum_by-cons f (j * g + i) (range_with_len (j * g + i + 1) n)
    ∙ (ap (λ x. x + sum_by f (range_with_len (j * g + i + 1) n)) here
    ∙ (ap (λ x. F i * H j + x) later
    ∙ (joined (F i) (sum_by F (range_with_len (i + 1) n)) (H j)
    ∙ ap (λ x. x * H j) (sym (sum_by-cons F i (range_with_len (i + 1) n))))))
  where
    joined : (a b h : ℕ) → a * h + b * h ≡ (a + b) * h
    joined a b h = omega arith

-- rows of g numbers, one after another
rows_sum : (F H : ℕ → ℕ) (g j m : ℕ) → sum_by (λ d. F (d % g) * H (d / g)) (range_with_len (j * g) (m * g)) ≡ sum_by F (range_with_len 0 g) * sum_by H (range_with_len j m)
rows_sum F H g j zero =
    let none : zero * g ≡ zero = omega arith in
    ap (λ k. sum_by (λ d. F (d % g) * H (d / g)) (range_with_len (j * g) k)) none ∙ nothing (sum_by F (range_with_len 0 g))
  where
    nothing : (s : ℕ) → 0 ≡ s * 0
    nothing s = omega arith
rows_sum F H g j (suc m) =
    let f : ℕ → ℕ = λ d. F (d % g) * H (d / g) in
    let row : ℕ = sum_by F (range_with_len 0 g) in
    let split = range_append (j * g) g (m * g) (suc m * g) ((j + 1) * g) (omega arith) (omega arith) in
    let begin : j * g ≡ j * g + 0 = omega arith in
    let first : sum_by f (range_with_len (j * g) g) ≡ row * H j =
    ap (λ a. sum_by f (range_with_len a g)) begin ∙ row_sum F H g j 0 g (omega arith) in
    ap (sum_by f) split
    ∙ (sum_by-append f (range_with_len (j * g) g) (range_with_len ((j + 1) * g) (m * g))
    ∙ (ap (λ x. x + sum_by f (range_with_len ((j + 1) * g) (m * g))) first
    ∙ (ap (λ x. row * H j + x) (rows_sum F H g (j + 1) m)
    ∙ (joined row (H j) (sum_by H (range_with_len (j + 1) m))
    ∙ ap (λ x. row * x) (sym (sum_by-cons H j (range_with_len (j + 1) m)))))))
  where
    joined : (s a b : ℕ) → s * a + s * b ≡ s * (a + b)
    joined s a b = omega arith

-- the lengths along one axis, from tile a on
along : (n t a k : ℕ) → sum_by (λ i. min t (n - i * t)) (range_with_len a k) ≡ min (n - a * t) (k * t)
along n t a zero = omega arith
along n t a (suc k) =
    let f : ℕ → ℕ = λ i. min t (n - i * t) in
    let later : sum_by f (range_with_len (a + 1) k) ≡ min (n - (a + 1) * t) (k * t) = along n t (a + 1) k in
    let begin : (a + 1) * t ≡ a * t + t = omega arith in
    let more : suc k * t ≡ t + k * t = omega arith in
    sum_by-cons f a (range_with_len (a + 1) k)
    ∙ (ap (λ x. min t (n - a * t) + x) later
    ∙ (ap (λ x. min t (n - a * t) + min (n - x) (k * t)) begin
    ∙ (step (a * t) (k * t) ∙ ap (min (n - a * t)) (sym more))))
  where
    step : (b c : ℕ) → min t (n - b) + min (n - (b + t)) c ≡ min (n - b) (t + c)
    step b c = omega arith

all_along : (n t : ℕ) → 0 < t → sum_by (λ i. min t (n - i * t)) (range_with_len 0 (tiles_on n t)) ≡ n
all_along n t some =
    let reach : n ≤ tiles_on n t * t = omega (arith, div-add-mod' (n + (t - 1)) t, mod_below (n + (t - 1)) t some) in
    along n t 0 (tiles_on n t) ∙ omega (arith, reach)

pub tiles_sum : (ns ts : List ℕ) → AreTileLengths ns ts → sum_by (λ d. product (tile_lengths ns ts d)) (range_with_len 0 (tile_count ns ts)) ≡ product ns
tiles_sum [] ts tiles = refl
tiles_sum (n ∷ ns) [] tiles = absurd (omega (arith, tiles.axes))
tiles_sum (n ∷ ns) (t ∷ ts) tiles =
    let g = tiles_on n t in
    let many = tile_count ns ts in
    let F : ℕ → ℕ = λ i. min t (n - i * t) in
    let H : ℕ → ℕ = λ q. product (tile_lengths ns ts q) in
    let begin : 0 ≡ 0 * g = omega arith in
    let turned : g * many ≡ many * g = omega arith in
    ap (λ k. sum_by (λ d. F (d % g) * H (d / g)) (range_with_len 0 k)) turned
    ∙ (ap (λ a. sum_by (λ d. F (d % g) * H (d / g)) (range_with_len a (many * g))) begin
    ∙ (rows_sum F H g 0 many
    ∙ (ap (λ x. x * sum_by H (range_with_len 0 many)) (all_along n t (tiles.positive zero (omega arith)))
    ∙ ap (λ x. n * x) (tiles_sum ns ts (tiles_tail n t ns ts tiles)))))
