-- Bits as numbers and as bytes, and back.
use Rattle.std.proofs.Common.{◌≡◌, ℕ, zero, suc, ◌+◌, ◌*◌, ◌/◌, ◌%◌, ◌^◌, ◌<◌, ◌≤◌, ◌==◌, Bool, true, false, List, [], ◌∷◌, ◌++◌, length, map, get_or, take, drop, inl, inr, refl, sym, ap, ◌∙◌, arith, length-append, length-drop}
use Rattle.std.specs.List.{range_with_len, All}
use Rattle.std.proofs.Math.Nat.{pow-suc}
use Rattle.std.proofs.Math.Numerals.{one-add}
use Rattle.std.proofs.lemmas.Bool.{cases_lt}
use Rattle.std.proofs.lemmas.Nat.{pow-add}
use Rattle.std.proofs.lemmas.List.{drop-drop, length-take-le, take-append-drop, take_at, drop-append-le, drop_all, length-map, get_or_past}
use Rattle.std.proofs.lemmas.List.FromFn.{length-range_with_len}
use Rattle.fz_bits.specs.Bits.{last_bit, number_bits, bits_of, bit, bits_value, bytes_of}
use Rattle.fz_bits.proofs.BitsLemmas.{length-number_bits, length-bits_of, number_bits-joined}

bit_lt : (b : Bool) → bit b < 2
unfolding bit
bit_lt true = omega arith
bit_lt false = omega arith

times_bit : (b : Bool) (n : ℕ) → bit b * n ≤ n
unfolding bit
times_bit true n = omega arith
times_bit false n = omega arith

pub bits_value-lt : (bits : List Bool) → bits_value bits < 2 ^ length bits
unfolding bits_value
bits_value-lt [] = omega arith
bits_value-lt (b ∷ bits) =
    let below = bits_value-lt bits in
    let twice : 2 ^ suc (length bits) ≡ 2 ^ length bits * 2 = pow-suc 2 (length bits) in
    let most : bit b * 2 ^ length bits ≤ 2 ^ length bits = times_bit b (2 ^ length bits) in
    omega arith

number_bits-bit : (b : Bool) → number_bits 1 (bit b) ≡ b ∷ []
unfolding number_bits bit
number_bits-bit true = refl
number_bits-bit false = refl

pub number_bits-bits_value : (bits : List Bool) → number_bits (length bits) (bits_value bits) ≡ bits
unfolding bits_value number_bits
number_bits-bits_value [] = refl
number_bits-bits_value (b ∷ bits) =
    ap (λ k. number_bits k (bits_value (b ∷ bits))) (sym (one-add (length bits))) ∙ number_bits-joined 1 (length bits) (bit b) (bits_value bits) (bits_value-lt bits) ∙ ap (λ front. front ++ number_bits (length bits) (bits_value bits)) (number_bits-bit b) ∙ ap (λ back. b ∷ back) (number_bits-bits_value bits)

regroup : (b x y u v : ℕ) → b * (x * y) + (u * y + v) ≡ (b * x + u) * y + v
regroup b x y u v = omega arith

-- bits after bits
pub bits_value-append : (xs ys : List Bool) → bits_value (xs ++ ys) ≡ bits_value xs * 2 ^ length ys + bits_value ys
unfolding bits_value
bits_value-append [] ys = omega arith
bits_value-append (b ∷ xs) ys =
    let power : 2 ^ length (xs ++ ys) ≡ 2 ^ length xs * 2 ^ length ys = ap (λ k. 2 ^ k) (length-append xs ys) ∙ pow-add 2 (length xs) (length ys) in
    ap (λ k. bit b * k + bits_value (xs ++ ys)) power ∙ ap (λ k. bit b * (2 ^ length xs * 2 ^ length ys) + k) (bits_value-append xs ys) ∙ regroup (bit b) (2 ^ length xs) (2 ^ length ys) (bits_value xs) (bits_value ys)

bit-last : (v : ℕ) → bit (last_bit v) ≡ v % 2
unfolding bit
bit-last v =
    elim (cases_lt (v % 2) 1) [
      | inl h ↦ let e : v % 2 ≡ 0 = omega arith in ap (λ k. bit (k == 1)) e ∙ sym e
      | inr h ↦ let e : v % 2 ≡ 1 = omega arith in ap (λ k. bit (k == 1)) e ∙ sym e
    ]

pub bits_value-number_bits : (m v : ℕ) → v < 2 ^ m → bits_value (number_bits m v) ≡ v
unfolding bits_value number_bits
bits_value-number_bits zero v h = omega arith
bits_value-number_bits (suc m) v h =
    let twice : 2 ^ suc m ≡ 2 ^ m * 2 = pow-suc 2 m in
    let half : v / 2 < 2 ^ m = omega arith in
    bits_value-append (number_bits m (v / 2)) (last_bit v ∷ []) ∙ ap (λ k. k * 2 + bits_value (last_bit v ∷ [])) (bits_value-number_bits m (v / 2) half) ∙ omega (arith, bit-last v)

abbrev pub AreBytes : List ℕ → Type 0
AreBytes bytes = (i : ℕ) → get_or bytes i 0 < 256

-- bytes one by one
bytes_at : ℕ → List Bool → List ℕ
bytes_at zero bits = []
bytes_at (suc n) bits = bits_value (take 8 bits) ∷ bytes_at n (drop 8 bits)

bytes-from : (s n : ℕ) (bits : List Bool) → map (λ i. bits_value (take 8 (drop (8 * i) bits))) (range_with_len s n) ≡ bytes_at n (drop (8 * s) bits)
unfolding bytes_at
bytes-from s zero bits = refl
bytes-from s (suc n) bits =
    let next : 8 * s + 8 ≡ 8 * (s + 1) = omega arith in
    λ i. bits_value (take 8 (drop (8 * s) bits)) ∷ (bytes-from (s + 1) n bits ∙ ap (bytes_at n) (ap (λ m. drop m bits) (sym next) ∙ sym (drop-drop 8 (8 * s) bits))) i

bytes_of-is : (bits : List Bool) → bytes_of bits ≡ bytes_at (length bits / 8) bits
unfolding bytes_of
bytes_of-is bits = bytes-from 0 (length bits / 8) bits

pub length-bytes_of : (bits : List Bool) → length (bytes_of bits) ≡ length bits / 8
unfolding bytes_of
length-bytes_of bits = length-map (range_with_len 0 (length bits / 8)) _ ∙ length-range_with_len 0 (length bits / 8)

bytes_at-bits_of : (bytes : List ℕ) → AreBytes bytes → bytes_at (length bytes) (bits_of bytes) ≡ bytes
unfolding bytes_at bits_of
bytes_at-bits_of [] small = refl
bytes_at-bits_of (b ∷ bytes) small =
    let size = length-number_bits 8 b in
    let front : take 8 (number_bits 8 b ++ bits_of bytes) ≡ number_bits 8 b = take_at (number_bits 8 b) (bits_of bytes) 8 size in
    let behind : drop 8 (number_bits 8 b ++ bits_of bytes) ≡ bits_of bytes = drop-append-le 8 (number_bits 8 b) (bits_of bytes) (omega arith) ∙ ap (λ l. l ++ bits_of bytes) (drop_all 8 (number_bits 8 b) (omega arith)) in
    λ i. (ap bits_value front ∙ bits_value-number_bits 8 b (small 0)) i ∷ (ap (bytes_at (length bytes)) behind ∙ bytes_at-bits_of bytes (λ k. small (suc k))) i

-- the bytes of the bits of bytes are these bytes
pub bytes_of-bits_of : (bytes : List ℕ) → AreBytes bytes → bytes_of (bits_of bytes) ≡ bytes
bytes_of-bits_of bytes small =
    let size : length (bits_of bytes) / 8 ≡ length bytes = omega (arith, length-bits_of bytes) in
    bytes_of-is (bits_of bytes) ∙ ap (λ n. bytes_at n (bits_of bytes)) size ∙ bytes_at-bits_of bytes small

bits_of-bytes_at : (n : ℕ) (bits : List Bool) → length bits ≡ 8 * n → bits_of (bytes_at n bits) ≡ bits
unfolding bytes_at bits_of
bits_of-bytes_at zero [] len = refl
bits_of-bytes_at zero (b ∷ bits) len = absurd (omega (arith, len))
bits_of-bytes_at (suc n) bits len =
    let front : length (take 8 bits) ≡ 8 = length-take-le 8 bits (omega arith) in
    let rest : length (drop 8 bits) ≡ 8 * n = length-drop 8 bits ∙ omega arith in
    ap (λ l. l ++ bits_of (bytes_at n (drop 8 bits))) (ap (λ k. number_bits k (bits_value (take 8 bits))) (sym front) ∙ number_bits-bits_value (take 8 bits))
    ∙ ap (λ l. take 8 bits ++ l) (bits_of-bytes_at n (drop 8 bits) rest)
    ∙ take-append-drop 8 bits

-- the bits of the bytes of whole bytes are these bits
pub bits_of-bytes_of : (bits : List Bool) → length bits % 8 ≡ 0 → bits_of (bytes_of bits) ≡ bits
bits_of-bytes_of bits whole = ap bits_of (bytes_of-is bits) ∙ bits_of-bytes_at (length bits / 8) bits (omega (arith, whole))

-- a list of bytes has bytes at all places
pub bytes_of-bits_of_all : (bytes : List ℕ) → All (λ byte. byte < 256) bytes → bytes_of (bits_of bytes) ≡ bytes
bytes_of-bits_of_all bytes all =
    bytes_of-bits_of bytes (λ i. elim (cases_lt i (length bytes)) [
      | inl within ↦ all i 0 within
      | inr past ↦ rw (get_or_past bytes i 0 past) (omega arith)
    ])
