-- Bounds of decimals, and their digits.
use Rattle.std.proofs.Common.{◌≡◌, ℕ, zero, suc, ◌+◌, ◌-◌, ◌*◌, ◌/◌, ◌%◌, ◌^◌, ◌<◌, ◌≤◌, List, [], ◌∷◌, ◌++◌, refl, arith}
use Rattle.std.specs.Prelude.{ℤ, pos, negsuc, ◌*ℤ◌, FitsSigned, codes, unsigned_abs}
use Rattle.std.specs.Int.{w64, w128}
use Rattle.std.proofs.lemmas.Int.{fits_signed_mul, unsigned_abs-mul}
use Rattle.std.proofs.Math.Nat.{pow-le-pow_right, mul-le-mul_left, mul-le-mul_right}
use Rattle.std.proofs.lemmas.List.{append_assoc}
use Rattle.fz_card.specs.Decimals.{IsSmall, last_digits, fraction_text}

pub abs-small : (e : ℤ) → IsSmall e → unsigned_abs e ≤ 9
abs-small (pos n) small = small
abs-small (negsuc n) small = small

pub power-le : (m n : ℕ) → m ≤ n → 10 ^ m ≤ 10 ^ n
power-le m n within = pow-le-pow_right {n = 10} (omega arith) within

pub power-positive : (n : ℕ) → 0 < 10 ^ n
power-positive n = omega (arith, power-le 0 n (omega arith))

pub digit-more : (line : List ℕ) (left n : ℕ) → 0 < left → (line ++ (48 + n / 10 ^ (left - 1) % 10) ∷ []) ++ last_digits (left - 1) n ≡ line ++ last_digits left n
digit-more line zero n some = absurd (omega arith)
digit-more line (suc k) n some = let e : suc k - 1 ≡ k = omega arith in rw e (append_assoc line ((48 + n / 10 ^ k % 10) ∷ []) (last_digits k n))

pub some-fraction : (places n : ℕ) → 0 < places → fraction_text places n ≡ codes "." ++ last_digits places n
some-fraction zero n some = absurd (omega arith)
some-fraction (suc places) n some = refl

-- an integer of 64 bits times a small power of ten
pub product-fits : (a : ℤ) (n : ℕ) → unsigned_abs a ≤ 2 ^ 63 → n ≤ 9 → FitsSigned w128 (a *ℤ pos (10 ^ n))
product-fits a n short small = fits_signed_mul w128 a (pos (10 ^ n)) (2 ^ 63) (10 ^ 9) short (power-le n 9 small) (omega arith)

pub product-low : (a : ℤ) (n : ℕ) → unsigned_abs a ≤ 2 ^ 63 → n ≤ 9 → unsigned_abs (a *ℤ pos (10 ^ n)) ≤ 10 ^ 28
product-low a n short small =
    let first : unsigned_abs a * 10 ^ n ≤ 2 ^ 63 * 10 ^ n = mul-le-mul_right (10 ^ n) short in
    let second : 2 ^ 63 * 10 ^ n ≤ 2 ^ 63 * 10 ^ 9 = mul-le-mul_left (2 ^ 63) (power-le n 9 small) in
    let same : unsigned_abs (a *ℤ pos (10 ^ n)) ≡ unsigned_abs a * 10 ^ n = unsigned_abs-mul a (pos (10 ^ n)) in
    omega (arith, first, second, same)

pub abs-wide : (a : ℤ) → FitsSigned w64 a → unsigned_abs a ≤ 2 ^ 63
abs-wide (pos n) fits = omega (arith, fits.sfits)
abs-wide (negsuc n) fits = omega (arith, fits.sfits)
