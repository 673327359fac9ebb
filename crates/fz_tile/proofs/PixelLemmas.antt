-- One pixel: from its bytes to its number and back.
use Rattle.std.proofs.Common.{unsigned_abs, ◌≡◌, ℕ, zero, suc, ◌+◌, ◌-◌, ◌*◌, ◌/◌, ◌%◌, ◌^◌, ◌<◌, ◌⊎◌, ℤ, pos, negsuc, List, [], ◌∷◌, ◌++◌, length, get_or, inl, inr, refl, sym, subst, ap, ◌∙◌, arith, FitsSigned}
use mir.Val.{bits}
use mir.Facts.{sfits_to_z}
use Rattle.std.specs.Int.{Width, w8, w16, w32, w64, to_be_bytes, from_be_bytes, cast_unsigned, cast_signed}
use Rattle.std.proofs.lemmas.Nat.{be_bytes_2, be_bytes_4, be_bytes_8, from_be_bytes-to_be_bytes_2, from_be_bytes-to_be_bytes_4, from_be_bytes-to_be_bytes_8, mod_below, div_below, div-mul-add}
use Rattle.std.proofs.Math.Nat.{mod-eq_of_lt, div-add-mod'}
use Rattle.std.proofs.lemmas.Int.{of_z-to_z, to_z-of_z}
use Rattle.fz_bits.specs.Numbers.{IsNumber}
use Rattle.fz_tile.specs.Plain.{pixel_bytes, pixel_of}
use Rattle.fz_tile.specs.Pixels.{IsBitpix, upper_half, lower_half}

-- each number of the list is a byte
abbrev pub AreBytes : List ℕ → Type 0
AreBytes bytes = (i : ℕ) → get_or bytes i 0 < 256

-- the sizes of a pixel
abbrev pub IsSize : ℕ → Type 0
IsSize b = (b ≡ 8) ⊎ ((b ≡ 16) ⊎ ((b ≡ 32) ⊎ (b ≡ 64)))

-- what holds at each size
pub by_size : (P : ℕ → Type 0) → P 8 → P 16 → P 32 → P 64 → (b : ℕ) → IsSize b → P b
by_size P at_8 at_16 at_32 at_64 b size = elim size [
  | inl e ↦ subst P (sym e) at_8
  | inr s ↦ elim s [ inl e ↦ subst P (sym e) at_16 | inr s ↦ elim s [ inl e ↦ subst P (sym e) at_32 | inr e ↦ subst P (sym e) at_64 ] ]
]

-- and at each BITPIX
pub by_bitpix : (P : ℤ → Type 0) → P (pos 8) → P (pos 16) → P (pos 32) → P (pos 64) → (bitpix : ℤ) → IsBitpix bitpix → P bitpix
by_bitpix P at_8 at_16 at_32 at_64 bitpix size = elim size [
  | inl e ↦ subst P (sym e) at_8
  | inr s ↦ elim s [ inl e ↦ subst P (sym e) at_16 | inr s ↦ elim s [ inl e ↦ subst P (sym e) at_32 | inr e ↦ subst P (sym e) at_64 ] ]
]

pub size_of : (bitpix : ℤ) → IsBitpix bitpix → IsSize (unsigned_abs bitpix)
size_of = by_bitpix (λ z. IsSize (unsigned_abs z)) (inl refl) (inr (inl refl)) (inr (inr (inl refl))) (inr (inr (inr refl)))

-- the range of a size is that of the signed type
pub fits_16 : (x : ℤ) → IsNumber 16 x → FitsSigned w16 x
fits_16 (pos n) h = record { sfits = h }
fits_16 (negsuc n) h = record { sfits = h.1 }

pub fits_32 : (x : ℤ) → IsNumber 32 x → FitsSigned w32 x
fits_32 (pos n) h = record { sfits = h }
fits_32 (negsuc n) h = record { sfits = h.1 }

pub fits_64 : (x : ℤ) → IsNumber 64 x → FitsSigned w64 x
fits_64 (pos n) h = record { sfits = h }
fits_64 (negsuc n) h = record { sfits = h.1 }

pub number_16 : (x : ℤ) → FitsSigned w16 x → IsNumber 16 x
number_16 (pos n) h = h.sfits
number_16 (negsuc n) h = (λ (e : 16 ≡ 8). omega (arith, e), h.sfits)

pub number_32 : (x : ℤ) → FitsSigned w32 x → IsNumber 32 x
number_32 (pos n) h = h.sfits
number_32 (negsuc n) h = (λ (e : 32 ≡ 8). omega (arith, e), h.sfits)

pub number_64 : (x : ℤ) → FitsSigned w64 x → IsNumber 64 x
number_64 (pos n) h = h.sfits
number_64 (negsuc n) h = (λ (e : 64 ≡ 8). omega (arith, e), h.sfits)

-- what is read as signed is in range
cast_fits : (w : Width) (n : ℕ) → n < 2 ^ bits w → FitsSigned w (cast_signed w n)
cast_fits w n small = sfits_to_z (record { fits = small })

-- the unsigned value of a number in range
below_16 : (x : ℤ) → FitsSigned w16 x → cast_unsigned w16 x < 2 ^ 16
below_16 (pos n) h = omega (arith, h.sfits)
below_16 (negsuc n) h = omega arith

below_32 : (x : ℤ) → FitsSigned w32 x → cast_unsigned w32 x < 2 ^ 32
below_32 (pos n) h = omega (arith, h.sfits)
below_32 (negsuc n) h = omega arith

below_64 : (x : ℤ) → FitsSigned w64 x → cast_unsigned w64 x < 2 ^ 64
below_64 (pos n) h = omega (arith, h.sfits)
below_64 (negsuc n) h = omega arith

-- what bytes store is below its power of 2
stored_16 : (bs : List ℕ) → AreBytes bs → from_be_bytes w16 bs < 2 ^ 16
stored_16 bs small = omega (arith, small 0, small 1)

stored_32 : (bs : List ℕ) → AreBytes bs → from_be_bytes w32 bs < 2 ^ 32
stored_32 bs small = omega (arith, small 0, small 1, small 2, small 3)

stored_64 : (bs : List ℕ) → AreBytes bs → from_be_bytes w64 bs < 2 ^ 64
stored_64 bs small = omega (arith, small 0, small 1, small 2, small 3, small 4, small 5, small 6, small 7)

-- a byte as a pixel
one_byte : (bs : List ℕ) → length bs ≡ 1 → AreBytes bs → to_be_bytes w8 (from_be_bytes w8 bs) ≡ bs
one_byte (a ∷ []) one small = let same : a % 256 ≡ a = mod-eq_of_lt (small 0) in ap (λ n. n ∷ []) same
one_byte (a ∷ b ∷ bs) one small = absurd (omega (arith, one))
one_byte [] one small = absurd (omega (arith, one))

-- a pixel that was read has the bytes that it was read from
pub bytes-pixel_of : (b : ℕ) (bs : List ℕ) → IsSize b → length bs ≡ b / 8 → AreBytes bs → pixel_bytes b (pixel_of b bs) ≡ bs
bytes-pixel_of b bs size len small =
    by_size (λ k. length bs ≡ k / 8 → pixel_bytes k (pixel_of k bs) ≡ bs)
    (λ l. one_byte bs l small)
    (λ l. be_bytes_2 bs _ l small (of_z-to_z w16 _ (stored_16 bs small)))
    (λ l. be_bytes_4 bs _ l small (of_z-to_z w32 _ (stored_32 bs small)))
    (λ l. be_bytes_8 bs _ l small (of_z-to_z w64 _ (stored_64 bs small))) b size len

-- a pixel that was written is read again
back_8 : (x : ℤ) → IsNumber 8 x → pixel_of 8 (pixel_bytes 8 x) ≡ x
back_8 (pos n) h = let same : n % 256 ≡ n = mod-eq_of_lt h in ap pos same
back_8 (negsuc n) h = absurd (h.0 refl)

pub pixel_of-bytes : (b : ℕ) (x : ℤ) → IsSize b → IsNumber b x → pixel_of b (pixel_bytes b x) ≡ x
pixel_of-bytes b x size h =
    by_size (λ k. IsNumber k x → pixel_of k (pixel_bytes k x) ≡ x)
    (back_8 x)
    (λ n. ap (cast_signed w16) (from_be_bytes-to_be_bytes_2 _ (below_16 x (fits_16 x n))) ∙ to_z-of_z w16 x (fits_16 x n))
    (λ n. ap (cast_signed w32) (from_be_bytes-to_be_bytes_4 _ (below_32 x (fits_32 x n))) ∙ to_z-of_z w32 x (fits_32 x n))
    (λ n. ap (cast_signed w64) (from_be_bytes-to_be_bytes_8 _ (below_64 x (fits_64 x n))) ∙ to_z-of_z w64 x (fits_64 x n)) b size h

-- a pixel that was read is in range
pub pixel_of-number : (b : ℕ) (bs : List ℕ) → IsSize b → AreBytes bs → IsNumber b (pixel_of b bs)
pixel_of-number b bs size small =
    by_size (λ k. IsNumber k (pixel_of k bs)) (small 0)
    (number_16 _ (cast_fits w16 _ (stored_16 bs small))) (number_32 _ (cast_fits w32 _ (stored_32 bs small))) (number_64 _ (cast_fits w64 _ (stored_64 bs small))) b size

-- a pixel has the bytes of its size
pub length-pixel_bytes : (b : ℕ) (x : ℤ) → IsSize b → length (pixel_bytes b x) ≡ b / 8
length-pixel_bytes b x size = by_size (λ k. length (pixel_bytes k x) ≡ k / 8) refl refl refl refl b size

-- the halves of a pixel of 64 bits
lower_below : (x : ℤ) → cast_unsigned w64 x % 2 ^ 32 < 2 ^ 32
lower_below x = mod_below (cast_unsigned w64 x) (2 ^ 32) (omega arith)

pub lower-number : (x : ℤ) → IsNumber 32 (lower_half x)
lower-number x = number_32 _ (cast_fits w32 _ (lower_below x))

pub upper-number : (x : ℤ) → IsNumber 64 x → IsNumber 32 (upper_half x)
upper-number (pos n) h = div_below n (2 ^ 32) (2 ^ 31) (omega arith) h
upper-number (negsuc n) h = (λ (e : 32 ≡ 8). omega (arith, e), div_below n (2 ^ 32) (2 ^ 31) (omega arith) h.1)

upper-unsigned : (x : ℤ) → IsNumber 64 x → cast_unsigned w32 (upper_half x) ≡ cast_unsigned w64 x / 2 ^ 32
upper-unsigned (pos n) h = refl
upper-unsigned (negsuc n) h =
    let q = n / 4294967296 in
    let r = n % 4294967296 in
    let low : r < 4294967296 = mod_below n 4294967296 (omega arith) in
    let parts : n ≡ q * 4294967296 + r = sym (div-add-mod' n 4294967296) in
    let high : q < 2147483648 = div_below n 4294967296 2147483648 (omega arith) h.1 in
    let split : (4294967296 - suc q) * 4294967296 + (4294967295 - r) ≡ 18446744073709551616 - suc n = omega arith in
    let small : 4294967295 - r < 4294967296 = omega arith in
    sym (ap (λ m. m / 4294967296) (sym split) ∙ div-mul-add (4294967296 - suc q) 4294967296 (4294967295 - r) small)

four_bytes : (n : ℕ) → AreBytes (to_be_bytes w32 n)
four_bytes n zero = mod_below _ 256 (omega arith)
four_bytes n (suc zero) = mod_below _ 256 (omega arith)
four_bytes n (suc (suc zero)) = mod_below _ 256 (omega arith)
four_bytes n (suc (suc (suc zero))) = mod_below _ 256 (omega arith)
four_bytes n (suc (suc (suc (suc i)))) = omega arith

eight_bytes : (m n : ℕ) → AreBytes (to_be_bytes w32 m ++ (to_be_bytes w32 n ++ []))
eight_bytes m n zero = mod_below _ 256 (omega arith)
eight_bytes m n (suc zero) = mod_below _ 256 (omega arith)
eight_bytes m n (suc (suc zero)) = mod_below _ 256 (omega arith)
eight_bytes m n (suc (suc (suc zero))) = mod_below _ 256 (omega arith)
eight_bytes m n (suc (suc (suc (suc i)))) = four_bytes n i

two_words : (u hi lo a b c d e f g h : ℕ) → u ≡ hi * 4294967296 + lo →
    a * 16777216 + b * 65536 + c * 256 + d ≡ hi → e * 16777216 + f * 65536 + g * 256 + h ≡ lo →
    u ≡ a * 72057594037927936 + b * 281474976710656 + c * 1099511627776 + d * 4294967296 + e * 16777216 + f * 65536 + g * 256 + h
two_words u hi lo a b c d e f g h whole high low = omega arith

-- the bytes of a pixel of 64 bits are those of its halves
pub bytes-halves : (x : ℤ) → IsNumber 64 x → pixel_bytes 64 x ≡ pixel_bytes 32 (upper_half x) ++ (pixel_bytes 32 (lower_half x) ++ [])
bytes-halves x h =
    let u = cast_unsigned w64 x in
    let hi = cast_unsigned w32 (upper_half x) in
    let lo = cast_unsigned w32 (lower_half x) in
    let high : hi ≡ u / 4294967296 = upper-unsigned x h in
    let low : lo ≡ u % 4294967296 = of_z-to_z w32 (u % 4294967296) (lower_below x) in
    let sum : u ≡ (u / 4294967296) * 4294967296 + u % 4294967296 = sym (div-add-mod' u 4294967296) in
    let above = from_be_bytes-to_be_bytes_4 hi (below_32 _ (fits_32 _ (upper-number x h))) in
    let below = from_be_bytes-to_be_bytes_4 lo (below_32 _ (fits_32 _ (lower-number x))) in
    be_bytes_8 (to_be_bytes w32 hi ++ (to_be_bytes w32 lo ++ [])) u refl (eight_bytes hi lo)
    (two_words u hi lo _ _ _ _ _ _ _ _ (sum ∙ ap (λ k. k * 4294967296 + u % 4294967296) (sym high) ∙ ap (λ k. hi * 4294967296 + k) (sym low)) above below)
