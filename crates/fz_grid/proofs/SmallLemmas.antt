-- Arrays of at most 9 axes of at most 6 pixels each, as the tests have them.
use Rattle.std.proofs.Common.{◌≡◌, ℕ, suc, zero, ◌+◌, ◌-◌, ◌*◌, ◌^◌, ◌<◌, ◌≤◌, List, [], ◌∷◌, get_or, take, ap, ◌∙◌, arith}
use Rattle.std.proofs.lemmas.Nat.{mul-le}
use Rattle.std.proofs.Math.Nat.{div-le_of_le-mul, le-mul_of_pos_right, one-le-pow, pow-le-pow_right, pow-suc}
use Rattle.fz_grid.specs.Arrays.{product}
use Rattle.fz_grid.specs.Grid.{tile_counts}
use Rattle.fz_grid.proofs.GridLemmas.{tiles_on}
use Rattle.fz_grid.proofs.Tilings.{IsCut, cut_tail}

product_power : (xs : List ℕ) (n : ℕ) → ((k : ℕ) → k < n → get_or xs k 0 ≤ 6) → product (take n xs) ≤ 6 ^ n
product_power xs zero small = omega arith
product_power [] (suc n) small = omega (arith, one-le-pow (suc n) 6 (omega arith))
product_power (x ∷ xs) (suc n) small =
    let rest = product_power xs n (λ k h. small (suc k) (omega arith)) in
    let first : x ≤ 6 = small zero (omega arith) in
    let whole : x * product (take n xs) ≤ 6 * 6 ^ n = mul-le x (product (take n xs)) 6 (6 ^ n) first rest in
    omega (arith, pow-suc n 6, whole)

pub small_product : (xs : List ℕ) (n : ℕ) → n ≤ 9 → ((k : ℕ) → k < n → get_or xs k 0 ≤ 6) → product (take n xs) ≤ 10077696
small_product xs n few small =
    let some : 0 < 6 = omega arith in
    let power : 6 ^ n ≤ 6 ^ 9 = pow-le-pow_right some few in
    omega (arith, product_power xs n small, power)

count_le : (n t : ℕ) → 0 < t → 0 < n → tiles_on n t ≤ n
count_le n t tile some =
    let room : (t - 1) ≤ (t - 1) * n = le-mul_of_pos_right (t - 1) some in
    let split : (t - 1) * n + n ≡ t * n = ap (λ x. x) (spread n t tile) in
    div-le_of_le-mul t (omega (arith, room, split))
  where
    spread : (n t : ℕ) → 0 < t → (t - 1) * n + n ≡ t * n
    spread n zero tile = absurd (omega arith)
    spread n (suc t) tile =
        let less : suc t - 1 ≡ t = omega arith in
        ap (λ x. x * n + n) less ∙ omega arith

pub counts_le : (ns ts : List ℕ) → IsCut ns ts → product (tile_counts ns ts) ≤ product ns
counts_le [] ts cut = omega arith
counts_le (n ∷ ns) [] cut = absurd (omega (arith, cut.same))
counts_le (n ∷ ns) (t ∷ ts) cut =
    mul-le (tiles_on n t) (product (tile_counts ns ts)) n (product ns) (count_le n t (cut.positive zero (omega arith)) (cut.some zero (omega arith))) (counts_le ns ts (cut_tail n t ns ts cut))
