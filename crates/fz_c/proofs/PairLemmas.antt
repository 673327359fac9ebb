-- An even number of places of 32 bits holds pixels of 64 bits.
use Rattle.std.proofs.Common.{◌≡◌, ℕ, zero, suc, ◌+◌, ◌-◌, ◌*◌, ◌/◌, ◌%◌, ◌^◌, ◌<◌, ℤ, pos, negsuc, List, [], ◌∷◌, length, refl, sym, subst, ap, ◌∙◌, arith, FitsSigned}
use mir.Facts.{sfits_to_z}
use Rattle.std.specs.Int.{w32, w64, cast_unsigned, cast_signed}
use Rattle.std.specs.List.{All, AllByRecursion, flat_map}
use Rattle.std.proofs.lemmas.Nat.{mod_below, div_below, div-mul-add, mod-mul-add}
use Rattle.std.proofs.lemmas.List.Elements.{All-from_recursion, recursion_from_All}
use Rattle.std.proofs.lemmas.Int.{to_z-of_z}
use Rattle.fz_bits.specs.Numbers.{IsNumber}
use Rattle.fz_tile.specs.Pixels.{HoldPixels, HoldWhole, halves, upper_half, lower_half}

-- ---- two numbers of 32 bits are the halves of a pixel of 64 bits

fits_32 : (x : ℤ) → IsNumber 32 x → FitsSigned w32 x
fits_32 (pos n) h = record { sfits = h }
fits_32 (negsuc n) h = record { sfits = h.1 }

number_32 : (x : ℤ) → FitsSigned w32 x → IsNumber 32 x
number_32 (pos n) h = h.sfits
number_32 (negsuc n) h = (λ (e : 32 ≡ 8). omega (arith, e), h.sfits)

low_of : ℤ → ℕ
low_of lower = cast_unsigned w32 lower

low_below : (lower : ℤ) → IsNumber 32 lower → low_of lower < 4294967296
unfolding low_of
low_below (pos n) h = omega (arith, h)
low_below (negsuc n) h = omega arith

-- the pixel
joined : ℤ → ℤ → ℤ
joined (pos h) lower = pos (h * 4294967296 + low_of lower)
joined (negsuc h) lower = negsuc (h * 4294967296 + (4294967295 - low_of lower))

joined-number : (upper lower : ℤ) → IsNumber 32 upper → IsNumber 32 lower → IsNumber 64 (joined upper lower)
unfolding joined
joined-number (pos h) lower up low = omega (arith, up, low_below lower low)
joined-number (negsuc h) lower up low = (λ (e : 64 ≡ 8). omega (arith, e), omega (arith, up.1))

upper-joined : (upper lower : ℤ) → IsNumber 32 lower → upper_half (joined upper lower) ≡ upper
unfolding joined
upper-joined (pos h) lower low = ap pos (div-mul-add h 4294967296 (low_of lower) (low_below lower low))
upper-joined (negsuc h) lower low = ap negsuc (div-mul-add h 4294967296 (4294967295 - low_of lower) (omega arith))

unsigned-joined : (upper lower : ℤ) → IsNumber 32 upper → IsNumber 32 lower → cast_unsigned w64 (joined upper lower) % 4294967296 ≡ low_of lower
unfolding joined
unsigned-joined (pos h) lower up low = mod-mul-add h 4294967296 (low_of lower) (low_below lower low)
unsigned-joined (negsuc h) lower up low =
    let small : low_of lower < 4294967296 = low_below lower low in
    let split : (4294967295 - h) * 4294967296 + low_of lower ≡ 18446744073709551616 - suc (h * 4294967296 + (4294967295 - low_of lower)) = omega (arith, up.1, small) in
    ap (λ m. m % 4294967296) (sym split) ∙ mod-mul-add (4294967295 - h) 4294967296 (low_of lower) small

lower-joined : (upper lower : ℤ) → IsNumber 32 upper → IsNumber 32 lower → lower_half (joined upper lower) ≡ lower
unfolding low_of
lower-joined upper lower up low = ap (cast_signed w32) (unsigned-joined upper lower up low) ∙ to_z-of_z w32 lower (fits_32 lower low)

-- ---- one after another

pixels_of : List ℤ → List ℤ
pixels_of [] = []
pixels_of (upper ∷ []) = []
pixels_of (upper ∷ lower ∷ rest) = joined upper lower ∷ pixels_of rest

pixels-number : (numbers : List ℤ) → AllByRecursion (IsNumber 32) numbers → AllByRecursion (IsNumber 64) (pixels_of numbers)
unfolding pixels_of
pixels-number [] fit = tt
pixels-number (upper ∷ []) fit = tt
pixels-number (upper ∷ lower ∷ rest) fit = (joined-number upper lower fit.0 fit.1.0, pixels-number rest fit.1.1)

pixels-halves : (n : ℕ) (numbers : List ℤ) → length numbers ≡ 2 * n → AllByRecursion (IsNumber 32) numbers → numbers ≡ flat_map halves (pixels_of numbers)
unfolding pixels_of
pixels-halves n [] even fit = refl
pixels-halves n (upper ∷ []) even fit = absurd (omega (arith, even))
pixels-halves zero (upper ∷ lower ∷ rest) even fit = absurd (omega (arith, even))
pixels-halves (suc n) (upper ∷ lower ∷ rest) even fit =
    ap (λ z. z ∷ lower ∷ rest) (sym (upper-joined upper lower fit.1.0))
    ∙ ap (λ z. upper_half (joined upper lower) ∷ z ∷ rest) (sym (lower-joined upper lower fit.0 fit.1.0))
    ∙ ap (λ (l : List ℤ). upper_half (joined upper lower) ∷ lower_half (joined upper lower) ∷ l) (pixels-halves n rest (omega (arith, even)) fit.1.1)

pub hold_pairs : (numbers : List ℤ) → All (IsNumber 32) numbers → HoldWhole 64 (length numbers) → (xs : List ℤ) × HoldPixels 64 numbers xs
hold_pairs numbers all even =
    let each = recursion_from_All (IsNumber 32) numbers all in (
      pixels_of numbers,
      record { pixels = All-from_recursion (IsNumber 64) (pixels_of numbers) (pixels-number numbers each); are = pixels-halves (length numbers / 2) numbers even each },
    )

-- ---- the halves of pixels of 64 bits are numbers of 32 bits

upper-number : (x : ℤ) → IsNumber 64 x → IsNumber 32 (upper_half x)
upper-number (pos n) h = div_below n (2 ^ 32) (2 ^ 31) (omega arith) h
upper-number (negsuc n) h = (λ (e : 32 ≡ 8). omega (arith, e), div_below n (2 ^ 32) (2 ^ 31) (omega arith) h.1)

lower-number : (x : ℤ) → IsNumber 32 (lower_half x)
lower-number x = number_32 _ (sfits_to_z (record { fits = mod_below (cast_unsigned w64 x) (2 ^ 32) (omega arith) }))

halves-number : (xs : List ℤ) → AllByRecursion (IsNumber 64) xs → AllByRecursion (IsNumber 32) (flat_map halves xs)
halves-number [] fit = tt
halves-number (x ∷ xs) fit = (upper-number x fit.0, (lower-number x, halves-number xs fit.1))

pub pairs_fit : (xs numbers : List ℤ) → HoldPixels 64 numbers xs → All (IsNumber 32) numbers
pairs_fit xs numbers hold =
    subst (All (IsNumber 32)) (sym hold.are) (All-from_recursion (IsNumber 32) (flat_map halves xs) (halves-number xs (recursion_from_All (IsNumber 64) xs hold.pixels)))
