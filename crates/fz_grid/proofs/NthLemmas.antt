-- The number of the k-th place of a box, axis by axis.
use Rattle.std.proofs.Common.{◌≡◌, ℕ, suc, zero, ◌+◌, ◌*◌, ◌/◌, ◌%◌, ◌<◌, ◌≤◌, List, ◌∷◌, length, get_or, take, drop, refl, ap, sym, ◌∙◌, arith}
use Rattle.fz_block.specs.declared.axes.Axes.{Axes}
use Rattle.fz_grid.specs.declared.region.Region.{Region}
use Rattle.fz_grid.specs.Nth.{nth_place}
use Rattle.fz_grid.specs.Region.{lengths_of, region_corner, region_lengths}
use Rattle.fz_grid.proofs.Lists.{rest_more}

pub nth_more : (xs os rs : List ℕ) (n m i j d : ℕ) → i < n → n ≤ length xs → i < m → m ≤ length os → m ≤ length rs → i + 1 ≡ j → nth_place (drop i (take n xs)) (drop i (take m os)) (drop i (take m rs)) d ≡ get_or os i 0 + d % get_or rs i 0 + get_or xs i 0 * nth_place (drop j (take n xs)) (drop j (take m os)) (drop j (take m rs)) (d / get_or rs i 0)
nth_more xs os rs n m i j d below inside below' inside_os inside_rs next =
    let at_xs = rest_more xs n i j below inside next in
    let at_os = rest_more os m i j below' inside_os next in
    let at_rs = rest_more rs m i j below' inside_rs next in
    ap (λ l. nth_place l (drop i (take m os)) (drop i (take m rs)) d) at_xs
    ∙ (ap (λ l. nth_place (get_or xs i 0 ∷ drop j (take n xs)) l (drop i (take m rs)) d) at_os
    ∙ ap (λ l. nth_place (get_or xs i 0 ∷ drop j (take n xs)) (get_or os i 0 ∷ drop j (take m os)) l d) at_rs)

-- one axis more is counted into the place
pub place_step : (place stride a n higher here whole : ℕ) → here ≡ a + n * higher → place + stride * here ≡ whole → place + stride * a + stride * n * higher ≡ whole
place_step place stride a n higher here whole here_is so_far =
    let spread : stride * here ≡ stride * a + stride * n * higher = ap (λ x. stride * x) here_is ∙ omega arith in
    omega (arith, spread)

pub stride_step : (stride n rest here total : ℕ) → here ≡ n * rest → stride * here ≡ total → stride * n * rest ≡ total
stride_step stride n rest here total here_is so_far =
    let spread : stride * here ≡ stride * n * rest = ap (λ x. stride * x) here_is ∙ omega arith in
    sym spread ∙ so_far

pub factor_le : (a rest total : ℕ) → a * rest ≡ total → 1 ≤ total → a ≤ total
factor_le a zero total whole positive = absurd (omega arith)
factor_le a (suc rest) total whole positive = omega (arith, whole)

-- the place counted up to axis i, with that axis, and what the higher axes add
pub with_axis : (shape : Axes) (region : Region) (place stride digits i lo len k : ℕ) → length shape.len ≡ 9 → length region.lo ≡ 9 → length region.len ≡ 9 → shape.n ≤ 9 → region.n ≡ shape.n → i < shape.n → lo ≡ get_or region.lo i 0 → len ≡ get_or region.len i 0 → place + stride * nth_place (drop i (lengths_of shape)) (drop i (region_corner region)) (drop i (region_lengths region)) digits ≡ nth_place (lengths_of shape) (region_corner region) (region_lengths region) k → place + stride * (lo + digits % len) + stride * get_or shape.len i 0 * nth_place (drop (i + 1) (lengths_of shape)) (drop (i + 1) (region_corner region)) (drop (i + 1) (region_lengths region)) (digits / len) ≡ nth_place (lengths_of shape) (region_corner region) (region_lengths region) k
with_axis shape region place stride digits i lo len k shape_len lo_len len_len few same below lo_is len_is so_far =
    let step = nth_more shape.len region.lo region.len shape.n region.n i (i + 1) digits below (omega arith) (omega arith) (omega arith) (omega arith) refl in
    let higher = nth_place (drop (i + 1) (lengths_of shape)) (drop (i + 1) (region_corner region)) (drop (i + 1) (region_lengths region)) in
    let here : nth_place (drop i (lengths_of shape)) (drop i (region_corner region)) (drop i (region_lengths region)) digits ≡ lo + digits % len + get_or shape.len i 0 * higher (digits / len) =
    step ∙ (ap (λ l. l + digits % get_or region.len i 0 + get_or shape.len i 0 * higher (digits / get_or region.len i 0)) (sym lo_is) ∙ ap (λ r. lo + digits % r + get_or shape.len i 0 * higher (digits / r)) (sym len_is)) in
    place_step place stride (lo + digits % len) (get_or shape.len i 0) (higher (digits / len)) _ _ here so_far
