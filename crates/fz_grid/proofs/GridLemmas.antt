-- Tiles, axis by axis.
use Rattle.std.proofs.Common.{◌≡◌, ℕ, ◌+◌, ◌-◌, ◌*◌, ◌/◌, ◌%◌, ◌<◌, ◌≤◌, min, List, ◌∷◌, length, get_or, take, drop, ap, sym, ◌∙◌, arith}
use Rattle.std.proofs.lemmas.Nat.{div-add-mod', le-div, mod_below}
use Rattle.std.proofs.Math.Nat.{mul-le-mul_right}
use Rattle.fz_grid.specs.Grid.{tile_counts, tile_corner, tile_lengths}
use Rattle.fz_grid.proofs.Lists.{rest_more}

-- how many tiles one axis has
abbrev pub tiles_on : ℕ → ℕ → ℕ
tiles_on n t = (n + (t - 1)) / t

pub count_pos : (n t : ℕ) → 0 < t → 0 < n → 0 < tiles_on n t
count_pos n t tile axis = omega (arith, le-div 1 (n + (t - 1)) t tile (omega arith))

-- a tile of the axis begins within it
pub begin_inside : (n t d : ℕ) → 0 < t → d < tiles_on n t → d * t < n
begin_inside n t d tile below =
    let whole = div-add-mod' (n + (t - 1)) t in
    let least : (d + 1) * t ≤ tiles_on n t * t = mul-le-mul_right t (omega arith) in
    omega (arith, whole, least)

pub digit_below : (n t d : ℕ) → 0 < t → 0 < n → d % tiles_on n t < tiles_on n t
digit_below n t d tile axis = mod_below d (tiles_on n t) (count_pos n t tile axis)

-- a digit's tile begins within the axis
pub digit_inside : (n t d g : ℕ) → 0 < t → 0 < n → g ≡ tiles_on n t → d % g * t < n
digit_inside n t d g tile axis count =
    begin_inside n t (d % g) tile (rw count (digit_below n t d tile axis))

pub counts_more : (xs ts : List ℕ) (n m i j g : ℕ) → i < n → n ≤ length xs → i < m → m ≤ length ts → i + 1 ≡ j → g ≡ tiles_on (get_or xs i 0) (get_or ts i 0) → tile_counts (drop i (take n xs)) (drop i (take m ts)) ≡ g ∷ tile_counts (drop j (take n xs)) (drop j (take m ts))
counts_more xs ts n m i j g below inside below' inside' next count =
    let at_xs = rest_more xs n i j below inside next in
    let at_ts = rest_more ts m i j below' inside' next in
    let rest = tile_counts (drop j (take n xs)) (drop j (take m ts)) in
    ap (λ l. tile_counts l (drop i (take m ts))) at_xs ∙ (ap (tile_counts (get_or xs i 0 ∷ drop j (take n xs))) at_ts ∙ ap (λ k. k ∷ rest) (sym count))

pub corner_more : (xs ts : List ℕ) (n m i j d g : ℕ) → i < n → n ≤ length xs → i < m → m ≤ length ts → i + 1 ≡ j → g ≡ tiles_on (get_or xs i 0) (get_or ts i 0) → tile_corner (drop i (take n xs)) (drop i (take m ts)) d ≡ (d % g * get_or ts i 0) ∷ tile_corner (drop j (take n xs)) (drop j (take m ts)) (d / g)
corner_more xs ts n m i j d g below inside below' inside' next count =
    let at_xs = rest_more xs n i j below inside next in
    let at_ts = rest_more ts m i j below' inside' next in
    ap (λ l. tile_corner l (drop i (take m ts)) d) at_xs
    ∙ (ap (λ l. tile_corner (get_or xs i 0 ∷ drop j (take n xs)) l d) at_ts
    ∙ ap (λ k. (d % k * get_or ts i 0) ∷ tile_corner (drop j (take n xs)) (drop j (take m ts)) (d / k)) (sym count))

pub lengths_more : (xs ts : List ℕ) (n m i j d g : ℕ) → i < n → n ≤ length xs → i < m → m ≤ length ts → i + 1 ≡ j → g ≡ tiles_on (get_or xs i 0) (get_or ts i 0) → tile_lengths (drop i (take n xs)) (drop i (take m ts)) d ≡ min (get_or ts i 0) (get_or xs i 0 - d % g * get_or ts i 0) ∷ tile_lengths (drop j (take n xs)) (drop j (take m ts)) (d / g)
lengths_more xs ts n m i j d g below inside below' inside' next count =
    let at_xs = rest_more xs n i j below inside next in
    let at_ts = rest_more ts m i j below' inside' next in
    ap (λ l. tile_lengths l (drop i (take m ts)) d) at_xs
    ∙ (ap (λ l. tile_lengths (get_or xs i 0 ∷ drop j (take n xs)) l d) at_ts
    ∙ ap (λ k. min (get_or ts i 0) (get_or xs i 0 - d % k * get_or ts i 0) ∷ tile_lengths (drop j (take n xs)) (drop j (take m ts)) (d / k)) (sym count))
