-- Numbers and their bits, there and back.
use Rattle.std.proofs.Common.{◌≡◌, ℕ, zero, suc, ◌+◌, ◌*◌, ◌/◌, ◌%◌, ◌^◌, ◌<◌, ◌≤◌, ◌==◌, Bool, true, false, List, [], ◌∷◌, ◌++◌, length, replicate, inl, inr, refl, sym, ap, ◌∙◌, arith, append_assoc, length-append, add-one}
use Rattle.std.proofs.Math.Nat.{div-one, pow-suc}
use Rattle.std.proofs.Math.Numerals.{one-add}
use Rattle.std.proofs.lemmas.Bool.{cases_lt}
use Rattle.std.proofs.lemmas.Nat.{shr-shr, field_of, mod-pow-add, mod_low, shr_high, pow-add}
use Rattle.std.proofs.lemmas.List.{append-nil, replicate_more}
use Rattle.fz_bits.specs.Bits.{last_bit, number_bits, bit, bits_value}

-- a number has as many bits as were asked for
pub length-number_bits : (m v : ℕ) → length (number_bits m v) ≡ m
unfolding number_bits
length-number_bits zero v = refl
length-number_bits (suc m) v =
    length-append (number_bits m (v / 2)) (last_bit v ∷ []) ∙ omega (arith, length-number_bits m (v / 2))

-- the front bits are those of the quotient
pub number_bits-append : (m n v : ℕ) → number_bits (m + n) v ≡ number_bits m (v / 2 ^ n) ++ number_bits n v
unfolding number_bits
number_bits-append m zero v =
    let e : m + zero ≡ m = omega arith in
    rw (e, div-one) (sym (append-nil (number_bits m v)))
number_bits-append m (suc n) v =
    let e : m + suc n ≡ suc (m + n) = omega arith in
    let halves : v / 2 / 2 ^ n ≡ v / 2 ^ suc n = shr-shr v 1 n ∙ ap (λ k. v / 2 ^ k) (one-add n) in
    rw (e, ← halves, number_bits-append m n (v / 2)) (append_assoc (number_bits m (v / 2 / 2 ^ n)) (number_bits n (v / 2)) (last_bit v ∷ []))

-- the bits of the remainder are the last bits
pub number_bits-mod : (n v : ℕ) → number_bits n (v % 2 ^ n) ≡ number_bits n v
unfolding number_bits
number_bits-mod zero v = refl
number_bits-mod (suc n) v =
    let front : (v % 2 ^ suc n) / 2 ≡ v / 2 % 2 ^ n = ap (λ k. v % 2 ^ k / 2) (sym (add-one n)) ∙ field_of v n 1 in
    let parts : v % 2 ^ suc n ≡ (v / 2 % 2 ^ n) * 2 + v % 2 = ap (λ k. v % 2 ^ k) (sym (add-one n)) ∙ mod-pow-add v n 1 in
    let last : (v % 2 ^ suc n) % 2 ≡ v % 2 = omega (arith, parts) in
    rw (front, last, number_bits-mod n (v / 2)) refl

-- the bits of two numbers joined
pub number_bits-joined : (m n high low : ℕ) → low < 2 ^ n → number_bits (m + n) (high * 2 ^ n + low) ≡ number_bits m high ++ number_bits n low
number_bits-joined m n high low fits =
    number_bits-append m n (high * 2 ^ n + low) ∙ ap (λ k. number_bits m k ++ number_bits n (high * 2 ^ n + low)) (shr_high high n low fits) ∙ ap (λ bits. number_bits m high ++ bits) (sym (number_bits-mod n (high * 2 ^ n + low)) ∙ ap (number_bits n) (mod_low high n low fits))

-- zero has zeros alone
pub number_bits-zero : (n : ℕ) → number_bits n 0 ≡ replicate n false
unfolding number_bits
number_bits-zero zero = refl
number_bits-zero (suc n) =
    ap (λ bits. bits ++ false ∷ []) (number_bits-zero n) ∙ replicate_more n false ∙ ap (λ k. replicate k false) (add-one n)

times_bit : (b : Bool) (n : ℕ) → bit b * n ≤ n
unfolding bit
times_bit true n = omega arith
times_bit false n = omega arith

pub bits_value-lt : (bits : List Bool) → bits_value bits < 2 ^ length bits
unfolding bits_value
bits_value-lt [] = omega arith
bits_value-lt (b ∷ bits) =
    let below = bits_value-lt bits in
    let twice : 2 ^ suc (length bits) ≡ 2 ^ length bits * 2 = pow-suc 2 (length bits) in
    let most : bit b * 2 ^ length bits ≤ 2 ^ length bits = times_bit b (2 ^ length bits) in
    omega arith

number_bits-bit : (b : Bool) → number_bits 1 (bit b) ≡ b ∷ []
unfolding number_bits bit
number_bits-bit true = refl
number_bits-bit false = refl

pub number_bits-bits_value : (bits : List Bool) → number_bits (length bits) (bits_value bits) ≡ bits
unfolding bits_value number_bits
number_bits-bits_value [] = refl
number_bits-bits_value (b ∷ bits) =
    ap (λ k. number_bits k (bits_value (b ∷ bits))) (sym (one-add (length bits))) ∙ number_bits-joined 1 (length bits) (bit b) (bits_value bits) (bits_value-lt bits) ∙ ap (λ front. front ++ number_bits (length bits) (bits_value bits)) (number_bits-bit b) ∙ ap (λ back. b ∷ back) (number_bits-bits_value bits)

regroup : (b x y u v : ℕ) → b * (x * y) + (u * y + v) ≡ (b * x + u) * y + v
regroup b x y u v = omega arith

-- bits after bits
pub bits_value-append : (xs ys : List Bool) → bits_value (xs ++ ys) ≡ bits_value xs * 2 ^ length ys + bits_value ys
unfolding bits_value
bits_value-append [] ys = omega arith
bits_value-append (b ∷ xs) ys =
    let power : 2 ^ length (xs ++ ys) ≡ 2 ^ length xs * 2 ^ length ys = ap (λ k. 2 ^ k) (length-append xs ys) ∙ pow-add 2 (length xs) (length ys) in
    ap (λ k. bit b * k + bits_value (xs ++ ys)) power ∙ ap (λ k. bit b * (2 ^ length xs * 2 ^ length ys) + k) (bits_value-append xs ys) ∙ regroup (bit b) (2 ^ length xs) (2 ^ length ys) (bits_value xs) (bits_value ys)

bit-last : (v : ℕ) → bit (last_bit v) ≡ v % 2
unfolding bit
bit-last v =
    elim (cases_lt (v % 2) 1) [
      | inl h ↦ let e : v % 2 ≡ 0 = omega arith in ap (λ k. bit (k == 1)) e ∙ sym e
      | inr h ↦ let e : v % 2 ≡ 1 = omega arith in ap (λ k. bit (k == 1)) e ∙ sym e
    ]

pub bits_value-number_bits : (m v : ℕ) → v < 2 ^ m → bits_value (number_bits m v) ≡ v
unfolding bits_value number_bits
bits_value-number_bits zero v h = omega arith
bits_value-number_bits (suc m) v h =
    let twice : 2 ^ suc m ≡ 2 ^ m * 2 = pow-suc 2 m in
    let half : v / 2 < 2 ^ m = omega arith in
    bits_value-append (number_bits m (v / 2)) (last_bit v ∷ []) ∙ ap (λ k. k * 2 + bits_value (last_bit v ∷ [])) (bits_value-number_bits m (v / 2) half) ∙ omega (arith, bit-last v)
