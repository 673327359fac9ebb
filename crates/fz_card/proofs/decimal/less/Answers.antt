use Rattle.std.proofs.Common.{◌≡◌, ℕ, ◌+◌, ◌*◌, ◌^◌, ◌<◌, ◌≤◌, to_z, of_z, FitsSigned, refl, ap, ◌∙◌, arith}
use Rattle.std.specs.Prelude.{ℤ, pos, ◌-ℤ◌, ◌*ℤ◌, unsigned_abs}
use Rattle.std.specs.Int.{w128}
use Rattle.std.proofs.lemmas.Int.{to_z-of_z, fits_signed_mul, fits_signed_from_abs, ints}
use Rattle.std.proofs.Math.Nat.{mul-le-mul_left, mul-le-mul_right}
use Rattle.fz_card.specs.declared.decimal.Decimal.{Decimal}
use Rattle.fz_card.proofs.DecimalNumbers.{power-le}
use Rattle.fz_card.proofs.decimal.less.Goals as goal

abs_less : (a : ℤ) (b : ℕ) → unsigned_abs (a -ℤ pos b) ≤ unsigned_abs a + b
abs_less a b = grind (arith, ints)

low : (a : ℤ) (by n : ℕ) → unsigned_abs a ≤ 10 ^ 28 → by < 2 ^ 32 → n ≤ 28 → unsigned_abs (a -ℤ pos (by * 10 ^ n)) < 10 ^ 38
low a by n small short few =
    let first : by * 10 ^ n ≤ 2 ^ 32 * 10 ^ n = mul-le-mul_right (10 ^ n) (omega arith) in
    let second : 2 ^ 32 * 10 ^ n ≤ 2 ^ 32 * 10 ^ 28 = mul-le-mul_left (2 ^ 32) (power-le n 28 few) in
    omega (arith, first, second, abs_less a (by * 10 ^ n))

number_is : (a : ℤ) → unsigned_abs a ≤ 10 ^ 28 → to_z w128 (of_z w128 a) ≡ a
number_is a small = to_z-of_z w128 a (fits_signed_from_abs w128 a (omega arith))

-- the factors are the whole number and the power of ten
product_fits : (x y : ℤ) (by n : ℕ) → to_z w128 (of_z w128 x) ≡ pos by → to_z w128 (of_z w128 y) ≡ pos (10 ^ n) → by < 2 ^ 32 → n ≤ 28 → FitsSigned w128 (to_z w128 (of_z w128 x) *ℤ to_z w128 (of_z w128 y))
product_fits x y by n first second short few =
    rw (first, second) (fits_signed_mul w128 (pos by) (pos (10 ^ n)) (2 ^ 32) (10 ^ 28) (omega arith) (power-le n 28 few) (omega arith))

product_is : (x y : ℤ) (by n : ℕ) → to_z w128 (of_z w128 x) ≡ pos by → to_z w128 (of_z w128 y) ≡ pos (10 ^ n) → by < 2 ^ 32 → n ≤ 28 → to_z w128 (of_z w128 (to_z w128 (of_z w128 x) *ℤ to_z w128 (of_z w128 y))) ≡ pos (by * 10 ^ n)
product_is x y by n first second short few = to_z-of_z w128 _ (product_fits x y by n first second short few) ∙ rw (first, second) refl

less_fits : (a z : ℤ) (by n : ℕ) → z ≡ pos (by * 10 ^ n) → unsigned_abs a ≤ 10 ^ 28 → by < 2 ^ 32 → n ≤ 28 → FitsSigned w128 (to_z w128 (of_z w128 a) -ℤ z)
less_fits a z by n is small short few =
    rw (number_is a small, is) (fits_signed_from_abs w128 (a -ℤ pos (by * 10 ^ n)) (omega (arith, low a by n small short few)))

less_is : (a z : ℤ) (by n : ℕ) → z ≡ pos (by * 10 ^ n) → unsigned_abs a ≤ 10 ^ 28 → by < 2 ^ 32 → n ≤ 28 → to_z w128 (of_z w128 (to_z w128 (of_z w128 a) -ℤ z)) ≡ a -ℤ pos (by * 10 ^ n)
less_is a z by n is small short few = to_z-of_z w128 _ (less_fits a z by n is small short few) ∙ rw (number_is a small, is) refl

abbrev decimal : ℤ → ℕ → Decimal
decimal number places = record { number = number; places = places }

whole : (x : ℤ) (by : ℕ) → FitsSigned w128 x → x ≡ pos by → to_z w128 (of_z w128 x) ≡ pos by
whole x by fits is = to_z-of_z w128 x fits ∙ is

pub overflow_mul-result : goal.overflow_mul-result
overflow_mul-result c =
    product_fits c.from.result c.power.result c.args.by c.args.decimal.places (whole _ _ (record { sfits = c.from.type_inv }) c.from.ensures) (whole _ _ (record { sfits = c.power.type_inv }) c.power.ensures.value) (omega (arith, c.ranges.by)) c.requires.few

pub overflow_sub-result : goal.overflow_sub-result
overflow_sub-result c =
    let product = product_is c.from.result c.power.result c.args.by c.args.decimal.places (whole _ _ (record { sfits = c.from.type_inv }) c.from.ensures) (whole _ _ (record { sfits = c.power.type_inv }) c.power.ensures.value) (omega (arith, c.ranges.by)) c.requires.few in
    less_fits c.args.decimal.number _ c.args.by c.args.decimal.places product c.requires.low (omega (arith, c.ranges.by)) c.requires.few

pub returns-clause-value : goal.returns-clause-value
returns-clause-value c =
    let product = product_is c.from.result c.power.result c.args.by c.args.decimal.places (whole _ _ (record { sfits = c.from.type_inv }) c.from.ensures) (whole _ _ (record { sfits = c.power.type_inv }) c.power.ensures.value) (omega (arith, c.ranges.by)) c.requires.few in
    ap (λ (n : ℤ). decimal n c.args.decimal.places) (less_is c.args.decimal.number _ c.args.by c.args.decimal.places product c.requires.low (omega (arith, c.ranges.by)) c.requires.few)

pub returns-clause-few : goal.returns-clause-few
returns-clause-few c = c.requires.few

pub returns-clause-low : goal.returns-clause-low
returns-clause-low c =
    let product = product_is c.from.result c.power.result c.args.by c.args.decimal.places (whole _ _ (record { sfits = c.from.type_inv }) c.from.ensures) (whole _ _ (record { sfits = c.power.type_inv }) c.power.ensures.value) (omega (arith, c.ranges.by)) c.requires.few in
    let is = less_is c.args.decimal.number _ c.args.by c.args.decimal.places product c.requires.low (omega (arith, c.ranges.by)) c.requires.few in
    rw is (low c.args.decimal.number c.args.by c.args.decimal.places c.requires.low (omega (arith, c.ranges.by)) c.requires.few)
