-- Lemmas on the bits of numbers and bytes.
use Rattle.std.proofs.Common.{◌≡◌, ℕ, zero, suc, ◌+◌, ◌*◌, ◌/◌, ◌%◌, ◌^◌, ◌<◌, ◌≤◌, true, false, List, [], ◌∷◌, ◌++◌, length, take, drop, get_or, replicate, inl, inr, refl, sym, ap, ◌∙◌, arith, append_assoc, length-append, add-one}
use Rattle.std.proofs.Math.Nat.{div-one, pow-suc, div-eq_of_lt}
use Rattle.std.proofs.Math.Numerals.{one-add}
use Rattle.std.proofs.lemmas.Nat.{shr-shr, shr_split, field_of, mod-pow-add, mod_low, mod_below, shr_high, pow_pos, le-div, div_below, pow-add, mul-add-lt, be_bytes_8}
use Rattle.std.proofs.lemmas.List.{append-nil, replicate_more, length-take-le, take-append-drop, take_at, take_all, drop_all}
use Rattle.std.proofs.Math.Nat.{mul_comm, pow-le-pow_right}
use Rattle.std.proofs.lemmas.Bool.{cases_lt}
use Rattle.std.proofs.Math.Seq.{drop-append_seam}
use Rattle.std.specs.Int.{w64, to_be_bytes, from_be_bytes}
use Rattle.fz_bits.specs.Bits.{last_bit, number_bits, bits_of}

-- a number has as many bits as were asked for
pub length-number_bits : (m v : ℕ) → length (number_bits m v) ≡ m
unfolding number_bits
length-number_bits zero v = refl
length-number_bits (suc m) v =
    length-append (number_bits m (v / 2)) (last_bit v ∷ []) ∙ omega (arith, length-number_bits m (v / 2))

-- the front bits are those of the quotient
pub number_bits-append : (m n v : ℕ) → number_bits (m + n) v ≡ number_bits m (v / 2 ^ n) ++ number_bits n v
unfolding number_bits
number_bits-append m zero v =
    let e : m + zero ≡ m = omega arith in
    rw (e, div-one) (sym (append-nil (number_bits m v)))
number_bits-append m (suc n) v =
    let e : m + suc n ≡ suc (m + n) = omega arith in
    let halves : v / 2 / 2 ^ n ≡ v / 2 ^ suc n = shr-shr v 1 n ∙ ap (λ k. v / 2 ^ k) (one-add n) in
    rw (e, ← halves, number_bits-append m n (v / 2)) (append_assoc (number_bits m (v / 2 / 2 ^ n)) (number_bits n (v / 2)) (last_bit v ∷ []))

-- the bits of the remainder are the last bits
pub number_bits-mod : (n v : ℕ) → number_bits n (v % 2 ^ n) ≡ number_bits n v
unfolding number_bits
number_bits-mod zero v = refl
number_bits-mod (suc n) v =
    let front : (v % 2 ^ suc n) / 2 ≡ v / 2 % 2 ^ n = ap (λ k. v % 2 ^ k / 2) (sym (add-one n)) ∙ field_of v n 1 in
    let parts : v % 2 ^ suc n ≡ (v / 2 % 2 ^ n) * 2 + v % 2 = ap (λ k. v % 2 ^ k) (sym (add-one n)) ∙ mod-pow-add v n 1 in
    let last : (v % 2 ^ suc n) % 2 ≡ v % 2 = omega (arith, parts) in
    rw (front, last, number_bits-mod n (v / 2)) refl

-- the bits of two numbers joined
pub number_bits-joined : (m n high low : ℕ) → low < 2 ^ n → number_bits (m + n) (high * 2 ^ n + low) ≡ number_bits m high ++ number_bits n low
number_bits-joined m n high low fits =
    number_bits-append m n (high * 2 ^ n + low) ∙ ap (λ k. number_bits m k ++ number_bits n (high * 2 ^ n + low)) (shr_high high n low fits) ∙ ap (λ bits. number_bits m high ++ bits) (sym (number_bits-mod n (high * 2 ^ n + low)) ∙ ap (number_bits n) (mod_low high n low fits))

-- two numbers joined fit the bits of both
pub joined_below : (m n high low : ℕ) → high < 2 ^ m → low < 2 ^ n → high * 2 ^ n + low < 2 ^ (m + n)
joined_below m n high low h l =
    rw (pow-add 2 m n, mul_comm (2 ^ m) (2 ^ n)) (mul-add-lt high (2 ^ n) low (2 ^ m) h l)

-- a number of so many bits has also more bits
pub below_wider : (v m n : ℕ) → v < 2 ^ m → m ≤ n → v < 2 ^ n
below_wider v m n fits wide =
    let le : 2 ^ m ≤ 2 ^ n = pow-le-pow_right (omega arith) wide in
    omega arith

-- zero has zeros alone
pub number_bits-zero : (n : ℕ) → number_bits n 0 ≡ replicate n false
unfolding number_bits
number_bits-zero zero = refl
number_bits-zero (suc n) =
    ap (λ bits. bits ++ false ∷ []) (number_bits-zero n) ∙ replicate_more n false ∙ ap (λ k. replicate k false) (add-one n)

-- one has a one after zeros
pub number_bits-one : (n : ℕ) → number_bits (n + 1) 1 ≡ replicate n false ++ true ∷ []
unfolding number_bits
number_bits-one n =
    ap (λ k. number_bits k 1) (add-one n) ∙ ap (λ bits. bits ++ true ∷ []) (number_bits-zero n)

-- the quotient of a number below twice the divisor
lead_quotient : (v d : ℕ) → 0 < d → d ≤ v → v < d * 2 → v / d ≡ 1
lead_quotient v d pos low high =
    let a = le-div 1 v d pos (omega arith) in
    let b : v / d < 2 = div_below v d 2 pos (omega arith) in
    omega arith

-- a number between two powers of two: zeros, its leading one, and what is after it
pub number_bits-lead : (z j v : ℕ) → 2 ^ j ≤ v → v < 2 ^ suc j → number_bits (z + suc j) v ≡ replicate z false ++ true ∷ number_bits j (v % 2 ^ j)
unfolding number_bits
number_bits-lead z j v low high =
    let none : v / 2 ^ suc j ≡ 0 = div-eq_of_lt high in
    let e : 1 + j ≡ suc j = one-add j in
    let whole : 2 ^ suc j ≡ 2 ^ j * 2 = pow-suc 2 j in
    let split = shr_split v j in
    let rest : v % 2 ^ j < 2 ^ j = mod_below v (2 ^ j) (pow_pos j) in
    let one : v / 2 ^ j ≡ 1 = lead_quotient v (2 ^ j) (pow_pos j) low (omega arith) in
    let first : number_bits (1 + j) v ≡ number_bits 1 (v / 2 ^ j) ++ number_bits j v = number_bits-append 1 j v in
    let behind : number_bits (suc j) v ≡ true ∷ number_bits j (v % 2 ^ j) = ap (λ k. number_bits k v) (sym e) ∙ first ∙ ap (λ k. number_bits 1 k ++ number_bits j v) one ∙ ap (λ bits. true ∷ bits) (sym (number_bits-mod j v)) in
    number_bits-append z (suc j) v ∙ ap (λ k. number_bits z k ++ number_bits (suc j) v) none ∙ ap (λ bits. bits ++ number_bits (suc j) v) (number_bits-zero z) ∙ ap (λ bits. replicate z false ++ bits) behind

pub length-bits_of : (bytes : List ℕ) → length (bits_of bytes) ≡ 8 * length bytes
unfolding bits_of
length-bits_of [] = refl
length-bits_of (b ∷ bytes) =
    length-append (number_bits 8 b) (bits_of bytes) ∙ omega (arith, length-number_bits 8 b, length-bits_of bytes)

pub bits_of-append : (xs ys : List ℕ) → bits_of (xs ++ ys) ≡ bits_of xs ++ bits_of ys
unfolding bits_of
bits_of-append [] ys = refl
bits_of-append (x ∷ xs) ys = rw (bits_of-append xs ys) (sym (append_assoc (number_bits 8 x) (bits_of xs) (bits_of ys)))

-- the bits of the first bytes
pub bits_of-take : (n : ℕ) (bytes : List ℕ) → bits_of (take n bytes) ≡ take (8 * n) (bits_of bytes)
bits_of-take n bytes =
    elim (cases_lt n (length bytes)) [
      | inl h ↦
          let front : length (bits_of (take n bytes)) ≡ 8 * n = length-bits_of (take n bytes) ∙ ap (λ k. 8 * k) (length-take-le n bytes (omega arith)) in
          sym (ap (λ bits. take (8 * n) bits) (ap bits_of (sym (take-append-drop n bytes)) ∙ bits_of-append (take n bytes) (drop n bytes)) ∙ take_at (bits_of (take n bytes)) (bits_of (drop n bytes)) (8 * n) front)
      | inr h ↦ ap bits_of (take_all n bytes h) ∙ sym (take_all (8 * n) (bits_of bytes) (omega (arith, length-bits_of bytes)))
    ]

-- the bits of the last bytes
pub bits_of-drop : (n : ℕ) (bytes : List ℕ) → bits_of (drop n bytes) ≡ drop (8 * n) (bits_of bytes)
unfolding bits_of
bits_of-drop n bytes =
    elim (cases_lt n (length bytes)) [
      | inl h ↦
          let front : length (bits_of (take n bytes)) ≡ 8 * n = length-bits_of (take n bytes) ∙ ap (λ k. 8 * k) (length-take-le n bytes (omega arith)) in
          sym (ap (drop (8 * n)) (ap bits_of (sym (take-append-drop n bytes)) ∙ bits_of-append (take n bytes) (drop n bytes)) ∙ ap (λ k. drop k (bits_of (take n bytes) ++ bits_of (drop n bytes))) (sym front) ∙ drop-append_seam (bits_of (take n bytes)) (bits_of (drop n bytes)))
      | inr h ↦ ap bits_of (drop_all n bytes h) ∙ sym (drop_all (8 * n) (bits_of bytes) (omega (arith, length-bits_of bytes)))
    ]

-- the first bits are those of the quotient
pub number_bits-front : (m n v : ℕ) → number_bits m (v / 2 ^ n) ≡ take m (number_bits (m + n) v)
number_bits-front m n v =
    sym (ap (take m) (number_bits-append m n v) ∙ take_at (number_bits m (v / 2 ^ n)) (number_bits n v) m (length-number_bits m (v / 2 ^ n)))

-- the bits of a number that is shifted out of its width
pub number_bits-shifted : (m n v : ℕ) → number_bits (n + m) (v * 2 ^ n % 2 ^ (n + m)) ≡ drop n (number_bits (n + m) v) ++ replicate n false
number_bits-shifted m n v =
    let e : n + m ≡ m + n = omega arith in
    let low : number_bits (m + n) (v * 2 ^ n + 0) ≡ number_bits m v ++ number_bits n 0 = number_bits-joined m n v 0 (pow_pos n) in
    let same : v * 2 ^ n + 0 ≡ v * 2 ^ n = omega arith in
    let back : drop n (number_bits (n + m) v) ≡ number_bits m v = ap (drop n) (number_bits-append n m v) ∙ ap (λ k. drop k (number_bits n (v / 2 ^ m) ++ number_bits m v)) (sym (length-number_bits n (v / 2 ^ m))) ∙ drop-append_seam (number_bits n (v / 2 ^ m)) (number_bits m v) in
    number_bits-mod (n + m) (v * 2 ^ n) ∙ ap (λ k. number_bits k (v * 2 ^ n)) e ∙ ap (number_bits (m + n)) (sym same) ∙ low ∙ ap (λ bits. number_bits m v ++ bits) (number_bits-zero n) ∙ ap (λ bits. bits ++ replicate n false) (sym back)

-- eight bytes are the 64 bits of the number that they make
pub bits_of-to_be_bytes : (v : ℕ) → bits_of (to_be_bytes w64 v) ≡ number_bits 64 v
unfolding bits_of
bits_of-to_be_bytes v =
    let e1 : number_bits 64 v ≡ number_bits 56 (v / 256) ++ number_bits 8 v = number_bits-append 56 8 v in
    let e2 : number_bits 56 (v / 256) ≡ number_bits 48 (v / 2 ^ 16) ++ number_bits 8 (v / 256) = number_bits-append 48 8 (v / 256) ∙ ap (λ k. number_bits 48 k ++ number_bits 8 (v / 256)) (shr-shr v 8 8) in
    let e3 : number_bits 48 (v / 2 ^ 16) ≡ number_bits 40 (v / 2 ^ 24) ++ number_bits 8 (v / 2 ^ 16) = number_bits-append 40 8 (v / 2 ^ 16) ∙ ap (λ k. number_bits 40 k ++ number_bits 8 (v / 2 ^ 16)) (shr-shr v 16 8) in
    let e4 : number_bits 40 (v / 2 ^ 24) ≡ number_bits 32 (v / 2 ^ 32) ++ number_bits 8 (v / 2 ^ 24) = number_bits-append 32 8 (v / 2 ^ 24) ∙ ap (λ k. number_bits 32 k ++ number_bits 8 (v / 2 ^ 24)) (shr-shr v 24 8) in
    let e5 : number_bits 32 (v / 2 ^ 32) ≡ number_bits 24 (v / 2 ^ 40) ++ number_bits 8 (v / 2 ^ 32) = number_bits-append 24 8 (v / 2 ^ 32) ∙ ap (λ k. number_bits 24 k ++ number_bits 8 (v / 2 ^ 32)) (shr-shr v 32 8) in
    let e6 : number_bits 24 (v / 2 ^ 40) ≡ number_bits 16 (v / 2 ^ 48) ++ number_bits 8 (v / 2 ^ 40) = number_bits-append 16 8 (v / 2 ^ 40) ∙ ap (λ k. number_bits 16 k ++ number_bits 8 (v / 2 ^ 40)) (shr-shr v 40 8) in
    let e7 : number_bits 16 (v / 2 ^ 48) ≡ number_bits 8 (v / 2 ^ 56) ++ number_bits 8 (v / 2 ^ 48) = number_bits-append 8 8 (v / 2 ^ 48) ∙ ap (λ k. number_bits 8 k ++ number_bits 8 (v / 2 ^ 48)) (shr-shr v 48 8) in
    rw (number_bits-mod 8 (v / 2 ^ 56), number_bits-mod 8 (v / 2 ^ 48), number_bits-mod 8 (v / 2 ^ 40), number_bits-mod 8 (v / 2 ^ 32), number_bits-mod 8 (v / 2 ^ 24), number_bits-mod 8 (v / 2 ^ 16), number_bits-mod 8 (v / 256), number_bits-mod 8 v, e1, e2, e3, e4, e5, e6, e7) (simp (append_assoc, append-nil))

pub number_bits-from_be_bytes : (bytes : List ℕ) → length bytes ≡ 8 → ((i : ℕ) → get_or bytes i 0 < 256) → number_bits 64 (from_be_bytes w64 bytes) ≡ bits_of bytes
number_bits-from_be_bytes bytes len fits =
    sym (bits_of-to_be_bytes (from_be_bytes w64 bytes)) ∙ ap bits_of (be_bytes_8 bytes (from_be_bytes w64 bytes) len fits refl)
