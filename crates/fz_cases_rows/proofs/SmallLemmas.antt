-- Arrays of at most 9 axes of at most 6 pixels each, as the tests have them.
use Rattle.std.proofs.Common.{◌≡◌, ℕ, suc, zero, ◌+◌, ◌-◌, ◌*◌, ◌/◌, ◌^◌, ◌<◌, ◌≤◌, List, [], ◌∷◌, length, get_or, take, ap, ◌∙◌, arith}
use Rattle.std.proofs.lemmas.Nat.{mul-le}
use Rattle.std.proofs.Math.Nat.{div-le_of_le-mul, le-mul_of_pos_right, one-le-pow, pow-le-pow_right, pow-suc}
use Rattle.fz_grid.specs.Arrays.{product}
use Rattle.fz_grid.specs.Grid.{tile_counts}

-- a table has at least as many entries as are above 0
pub long_enough : (xs : List ℕ) (n : ℕ) → ((i : ℕ) → i < n → 1 ≤ get_or xs i 0) → n ≤ length xs
long_enough xs zero positive = omega arith
long_enough [] (suc n) positive = absurd (omega (arith, positive n (omega arith)))
long_enough (x ∷ xs) (suc n) positive = omega (arith, long_enough xs n (λ i h. positive (suc i) (omega arith)))

-- an array and its tile have a place along each axis
pub record IsCut (array tile : List ℕ) : Type 0 where
  pub same : length tile ≡ length array
  pub some : (i : ℕ) → i < length array → 1 ≤ get_or array i 0
  pub positive : (i : ℕ) → i < length array → 1 ≤ get_or tile i 0

cut_tail : (n t : ℕ) (ns ts : List ℕ) → IsCut (n ∷ ns) (t ∷ ts) → IsCut ns ts
cut_tail n t ns ts cut =
    record {
      same = omega (arith, cut.same);
      some = λ i h. cut.some (suc i) (omega arith);
      positive = λ i h. cut.positive (suc i) (omega arith);
    }

product_power : (xs : List ℕ) (n : ℕ) → ((k : ℕ) → k < n → get_or xs k 0 ≤ 6) → product (take n xs) ≤ 6 ^ n
product_power xs zero small = omega arith
product_power [] (suc n) small = omega (arith, one-le-pow (suc n) 6 (omega arith))
product_power (x ∷ xs) (suc n) small =
    let rest = product_power xs n (λ k h. small (suc k) (omega arith)) in
    let first : x ≤ 6 = small zero (omega arith) in
    let whole : x * product (take n xs) ≤ 6 * 6 ^ n = mul-le x (product (take n xs)) 6 (6 ^ n) first rest in
    omega (arith, pow-suc n 6, whole)

pub small_product : (xs : List ℕ) (n : ℕ) → n ≤ 9 → ((k : ℕ) → k < n → get_or xs k 0 ≤ 6) → product (take n xs) ≤ 10077696
small_product xs n few small =
    let some : 0 < 6 = omega arith in
    let power : 6 ^ n ≤ 6 ^ 9 = pow-le-pow_right some few in
    omega (arith, product_power xs n small, power)

-- how many tiles of t there are along an axis of n
abbrev tiles_on : ℕ → ℕ → ℕ
tiles_on n t = (n + (t - 1)) / t

count_le : (n t : ℕ) → 0 < t → 0 < n → tiles_on n t ≤ n
count_le n t tile some =
    let room : (t - 1) ≤ (t - 1) * n = le-mul_of_pos_right (t - 1) some in
    let split : (t - 1) * n + n ≡ t * n = ap (λ x. x) (spread n t tile) in
    div-le_of_le-mul t (omega (arith, room, split))
  where
    spread : (n t : ℕ) → 0 < t → (t - 1) * n + n ≡ t * n
    spread n zero tile = absurd (omega arith)
    spread n (suc t) tile =
        let less : suc t - 1 ≡ t = omega arith in
        ap (λ x. x * n + n) less ∙ omega arith

pub counts_le : (ns ts : List ℕ) → IsCut ns ts → product (tile_counts ns ts) ≤ product ns
counts_le [] ts cut = omega arith
counts_le (n ∷ ns) [] cut = absurd (omega (arith, cut.same))
counts_le (n ∷ ns) (t ∷ ts) cut =
    mul-le (tiles_on n t) (product (tile_counts ns ts)) n (product ns) (count_le n t (cut.positive zero (omega arith)) (cut.some zero (omega arith))) (counts_le ns ts (cut_tail n t ns ts cut))
