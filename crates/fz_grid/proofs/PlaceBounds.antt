-- The places of a part lie in the cutout, and a tile has no more picks than pixels.
use Rattle.std.proofs.Common.{◌≡◌, ℕ, suc, ◌+◌, ◌-◌, ◌*◌, ◌/◌, ◌<◌, ◌≤◌, min, List, [], ◌∷◌, length, get_or, arith}
use Rattle.std.proofs.lemmas.Nat.{le-div, mul-le}
use Rattle.std.proofs.Math.Nat.{add-mul-div_right, div-mul-le_self, le-mul_of_pos_right}
use Rattle.fz_grid.specs.declared.sieve.Sieve.{Sieve}
use Rattle.fz_grid.specs.Arrays.{coordinates_of, place_of, product}
use Rattle.fz_grid.specs.Division.{AreTileLengths}
use Rattle.fz_grid.specs.Grid.{moved, tile_corner, tile_lengths}
use Rattle.fz_grid.specs.Sieve.{all_before, pick_count, picks_before, picks_in, sieve_hi, sieve_lengths, sieve_lo, sieve_step, stepped}
use Rattle.fz_grid.specs.Cutout.{Sifts, first_from, part_lengths, picks_in_cutout, picks_in_tile}
use Rattle.fz_grid.proofs.BoxLists.{PlaceLaws, box_length, box_nth}
use Rattle.fz_grid.proofs.CutoutLemmas.{sieve_axes}
use Rattle.fz_grid.proofs.PartLemmas.{AreAxes, axes_tail, placed}

pub part_inside : PlaceLaws → (ns ts : List ℕ) (sieve : Sieve) (t k : ℕ) → AreTileLengths ns ts → Sifts ns sieve → k < length (picks_in_cutout ns ts sieve t) → get_or (picks_in_cutout ns ts sieve t) k 0 < product (sieve_lengths sieve)
part_inside laws ns ts sieve t k tiles sifts low =
    let corner : List ℕ = tile_corner ns ts t in
    let counts : List ℕ = part_lengths ns ts sieve t in
    let cut : List ℕ = sieve_lengths sieve in
    let firsts : List ℕ = all_before (sieve_lo sieve) (sieve_hi sieve) (sieve_step sieve) corner in
    let below : k < product counts = omega (arith, low, box_length laws (λ j. place_of cut (moved firsts j)) counts) in
    let js : List ℕ = coordinates_of counts k in
    let here = placed (sieve_lo sieve) (sieve_hi sieve) (sieve_step sieve) corner (tile_lengths ns ts t) js (sieve_axes ns ts sieve t tiles sifts) (laws.numbers counts k below).0 in
    let nth : get_or (picks_in_cutout ns ts sieve t) k 0 ≡ place_of cut (moved firsts js) = box_nth laws (λ j. place_of cut (moved firsts j)) counts k 0 below in
    let inside : place_of cut (moved firsts js) < product cut = laws.inside cut (moved firsts js) here.among in
    omega (arith, nth, inside)

grows : (y n s : ℕ) → 0 < s → (y + n + (s - 1)) / s ≤ (y + (s - 1)) / s + n
grows y n s some =
    let wide : n ≤ n * s = le-mul_of_pos_right n some in
    let more : y + n + (s - 1) ≤ (y + (s - 1)) + n * s = omega (arith, wide) in
    let exact : ((y + (s - 1)) + n * s) / s ≡ (y + (s - 1)) / s + n = add-mul-div_right (y + (s - 1)) n some in
    let up : (y + n + (s - 1)) / s ≤ ((y + (s - 1)) + n * s) / s =
    le-div ((y + n + (s - 1)) / s) ((y + (s - 1)) + n * s) s some (omega (arith, div-mul-le_self (y + n + (s - 1)) s, more)) in
    omega (arith, up, exact)

min_fits : (a b m n : ℕ) → a ≤ b + n → min a m - min b m ≤ n
min_fits a b m n most = omega (arith, most)

axis_fits : (o h s c n : ℕ) → 0 < s → picks_before o h s (c + n) - picks_before o h s c ≤ n
axis_fits o h s c n some =
    let near : c + n - o + (s - 1) ≤ c - o + n + (s - 1) = omega arith in
    let up : (c + n - o + (s - 1)) / s ≤ (c - o + n + (s - 1)) / s =
    le-div ((c + n - o + (s - 1)) / s) (c - o + n + (s - 1)) s some (omega (arith, div-mul-le_self (c + n - o + (s - 1)) s, near)) in
    min_fits ((c + n - o + (s - 1)) / s) ((c - o + (s - 1)) / s) (pick_count o h s) n (omega (arith, up, grows (c - o) n s some))

picks_fit : (os hs ss cs ns : List ℕ) → AreAxes os hs ss cs ns → product (picks_in os hs ss cs ns) ≤ product ns
picks_fit [] hs ss cs [] axes = omega arith
picks_fit [] hs ss cs (n ∷ ns) axes = absurd (omega (arith, axes.lengths))
picks_fit (o ∷ os) [] ss cs ns axes = absurd (omega (arith, axes.his))
picks_fit (o ∷ os) (h ∷ hs) [] cs ns axes = absurd (omega (arith, axes.steps))
picks_fit (o ∷ os) (h ∷ hs) (s ∷ ss) [] ns axes = absurd (omega (arith, axes.corner))
picks_fit (o ∷ os) (h ∷ hs) (s ∷ ss) (c ∷ cs) [] axes = absurd (omega (arith, axes.lengths))
picks_fit (o ∷ os) (h ∷ hs) (s ∷ ss) (c ∷ cs) (n ∷ ns) axes =
    let first : 1 ≤ s = axes.positive 0 (omega arith) in
    mul-le (picks_before o h s (c + n) - picks_before o h s c) (product (picks_in os hs ss cs ns)) n (product ns) (axis_fits o h s c n (omega (arith, first)))
    (picks_fit os hs ss cs ns (axes_tail o h s c n os hs ss cs ns axes))

pub picks_room : PlaceLaws → (ns ts : List ℕ) (sieve : Sieve) (t : ℕ) → AreTileLengths ns ts → Sifts ns sieve → length (picks_in_tile ns ts sieve t) ≤ product (tile_lengths ns ts t)
picks_room laws ns ts sieve t tiles sifts =
    let corner : List ℕ = tile_corner ns ts t in
    let lengths : List ℕ = tile_lengths ns ts t in
    let counts : List ℕ = part_lengths ns ts sieve t in
    let most : product counts ≤ product lengths = picks_fit (sieve_lo sieve) (sieve_hi sieve) (sieve_step sieve) corner lengths (sieve_axes ns ts sieve t tiles sifts) in
    let all : length (picks_in_tile ns ts sieve t) ≡ product counts =
    box_length laws (λ j. place_of lengths (stepped (first_from (sieve_lo sieve) (sieve_hi sieve) (sieve_step sieve) corner) (sieve_step sieve) j)) counts in
    omega (arith, most, all)
