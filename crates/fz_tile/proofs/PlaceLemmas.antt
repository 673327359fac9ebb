-- Pixels in their places.
use Rattle.std.proofs.Common.{◌≡◌, ℕ, ◌*◌, ◌/◌, ℤ, pos, List, length, inl, inr, refl, sym, subst, ap, ◌∙◌, arith, unsigned_abs}
use Rattle.std.specs.List.{All, flat_map}
use Rattle.std.proofs.lemmas.List.Elements.{All-from_recursion, recursion_from_All}
use Rattle.fz_bits.specs.Numbers.{IsNumber}
use Rattle.fz_tile.specs.Plain.{plain_bytes, stored_pixels}
use Rattle.fz_tile.specs.Pixels.{IsBitpix, halves, places, pixel_count, HoldPixels, HoldWhole}
use Rattle.fz_tile.specs.Record.{IsStored}
use Rattle.fz_tile.proofs.PixelLemmas.{AreBytes, IsSize, by_size, by_bitpix}
use Rattle.fz_tile.proofs.PlainLemmas.{plain-stored, stored-plain, stored-numbers, plain-halves, halves-numbers, length-halves, length-stored}

-- the pixels that bytes store were read: the places hold them, and their plain bytes are these
abbrev pub HasRead : ℕ → ℕ → List ℕ → List ℤ → Type 0
HasRead b n code numbers = HoldPixels b numbers (stored_pixels b n code) × (code ≡ plain_bytes b (stored_pixels b n code))

-- the record has their length
pub stored_read : (b total n : ℕ) (code : List ℕ) (numbers : List ℤ) → total ≡ b / 8 * n → HasRead b n code numbers → (xs : List ℤ) × (length xs ≡ n) × IsStored b total code xs × HoldPixels b numbers xs
stored_read b total n code numbers is read =
    (stored_pixels b n code, length-stored b n code, (is ∙ ap (λ k. b / 8 * k) (sym (length-stored b n code)), read.1), read.0)

-- other sizes than 64 have a place for each pixel
pub places-one : (b : ℕ) (xs : List ℤ) → IsSize b → (b ≡ 64 → ⊥) → places b xs ≡ xs
places-one b xs size other = by_size (λ k. (k ≡ 64 → ⊥) → places k xs ≡ xs) (λ _. refl) (λ _. refl) (λ _. refl) (λ wide. absurd (wide refl)) b size other

pub pixel_count-one : (b count : ℕ) → IsSize b → (b ≡ 64 → ⊥) → pixel_count b count ≡ count
pixel_count-one b count size other = by_size (λ k. (k ≡ 64 → ⊥) → pixel_count k count ≡ count) (λ _. refl) (λ _. refl) (λ _. refl) (λ wide. absurd (wide refl)) b size other

-- the places of pixels are as many as the pixels need
pub length-places : (b : ℕ) (xs : List ℤ) → IsSize b → pixel_count b (length (places b xs)) ≡ length xs
length-places b xs size = by_size (λ k. pixel_count k (length (places k xs)) ≡ length xs) refl refl refl (omega (arith, length-halves xs)) b size

pub pixel_count-hold : (b : ℕ) (numbers xs : List ℤ) → IsSize b → HoldPixels b numbers xs → pixel_count b (length numbers) ≡ length xs
pixel_count-hold b numbers xs size hold = ap (λ (l : List ℤ). pixel_count b (length l)) hold.are ∙ length-places b xs size

-- what was read at 8, 16 and 32 bits
read_one : (b count : ℕ) (code : List ℕ) (numbers : List ℤ) → IsSize b → (b ≡ 64 → ⊥) → AreBytes code → length code ≡ b / 8 * count → numbers ≡ stored_pixels b count code → HasRead b count code numbers
read_one b count code numbers size other small len is = (
  record { pixels = stored-numbers b count code size small; are = is ∙ sym (places-one b (stored_pixels b count code) size other) },
  sym (plain-stored b count code size len small),
)

-- and at 64 bits, as numbers of 32 bits
read_two : (n count : ℕ) (code : List ℕ) (numbers : List ℤ) → count ≡ 2 * n → AreBytes code → length code ≡ 8 * n → numbers ≡ stored_pixels 32 count code → HasRead 64 n code numbers
read_two n count code numbers even small len is =
    let xs = stored_pixels 64 n code in
    let size : IsSize 64 = inr (inr (inr refl)) in
    let word : IsSize 32 = inr (inr (inl refl)) in
    let back : plain_bytes 64 xs ≡ code = plain-stored 64 n code size len small in
    let fits : All (IsNumber 64) xs = stored-numbers 64 n code size small in
    let each = recursion_from_All (IsNumber 64) xs fits in
    let split : code ≡ plain_bytes 32 (flat_map halves xs) = sym back ∙ plain-halves xs each in
    let long : count ≡ length (flat_map halves xs) = even ∙ ap (λ k. 2 * k) (sym (length-stored 64 n code)) ∙ sym (length-halves xs) in
    let again : stored_pixels 32 count code ≡ flat_map halves xs =
    ap (λ k. stored_pixels 32 k code) long ∙ ap (stored_pixels 32 (length (flat_map halves xs))) split
    ∙ stored-plain 32 (flat_map halves xs) word (All-from_recursion (IsNumber 32) (flat_map halves xs) (halves-numbers xs each)) in
    (record { pixels = fits; are = is ∙ again }, sym back)

-- the same for BITPIX
abbrev Reads : ℤ → ℕ → List ℕ → List ℤ → Type 0
Reads bitpix count code numbers = HasRead (unsigned_abs bitpix) (pixel_count (unsigned_abs bitpix) count) code numbers

abbrev HasLen : ℤ → ℕ → List ℕ → Type 0
HasLen bitpix count code = length code ≡ unsigned_abs bitpix / 8 * pixel_count (unsigned_abs bitpix) count

pub read_8 : (bitpix : ℤ) (count : ℕ) (code : List ℕ) (numbers : List ℤ) → bitpix ≡ pos 8 → AreBytes code → HasLen bitpix count code → numbers ≡ stored_pixels 8 count code → Reads bitpix count code numbers
read_8 bitpix count code numbers e small len is =
    subst (λ (z : ℤ). HasLen z count code → Reads z count code numbers) (sym e) (λ (l : length code ≡ 1 * count). read_one 8 count code numbers (inl refl) (λ (f : 8 ≡ 64). omega (arith, f)) small l is) len

pub read_16 : (bitpix : ℤ) (count : ℕ) (code : List ℕ) (numbers : List ℤ) → bitpix ≡ pos 16 → AreBytes code → HasLen bitpix count code → numbers ≡ stored_pixels 16 count code → Reads bitpix count code numbers
read_16 bitpix count code numbers e small len is =
    subst (λ (z : ℤ). HasLen z count code → Reads z count code numbers) (sym e) (λ (l : length code ≡ 2 * count). read_one 16 count code numbers (inr (inl refl)) (λ (f : 16 ≡ 64). omega (arith, f)) small l is) len

pub read_rest : (bitpix : ℤ) (count : ℕ) (code : List ℕ) (numbers : List ℤ) → IsBitpix bitpix → (bitpix ≡ pos 8 → ⊥) → (bitpix ≡ pos 16 → ⊥) → HoldWhole (unsigned_abs bitpix) count → AreBytes code → HasLen bitpix count code → numbers ≡ stored_pixels 32 count code → Reads bitpix count code numbers
read_rest bitpix count code numbers size no_byte no_short tile small len is =
    by_bitpix (λ z. (z ≡ pos 8 → ⊥) → (z ≡ pos 16 → ⊥) → HoldWhole (unsigned_abs z) count → HasLen z count code → Reads z count code numbers)
    (λ f _ _ _. absurd (f refl)) (λ _ f _ _. absurd (f refl))
    (λ _ _ _ l. read_one 32 count code numbers (inr (inr (inl refl))) (λ (f : 32 ≡ 64). omega (arith, f)) small l is)
    (λ _ _ t l. read_two (count / 2) count code numbers t small l is) bitpix size no_byte no_short tile len

-- what is written at 32 and 64 bits
pub words_room : (bitpix : ℤ) (count : ℕ) (numbers xs : List ℤ) → IsBitpix bitpix → (bitpix ≡ pos 8 → ⊥) → (bitpix ≡ pos 16 → ⊥) → HoldPixels (unsigned_abs bitpix) numbers xs → count ≡ unsigned_abs bitpix / 8 * pixel_count (unsigned_abs bitpix) (length numbers) → count ≡ 4 * length numbers
words_room bitpix count numbers xs size no_byte no_short hold len =
    by_bitpix (λ z. (z ≡ pos 8 → ⊥) → (z ≡ pos 16 → ⊥) → HoldPixels (unsigned_abs z) numbers xs → count ≡ unsigned_abs z / 8 * pixel_count (unsigned_abs z) (length numbers) → count ≡ 4 * length numbers)
    (λ f _ _ _. absurd (f refl)) (λ _ f _ _. absurd (f refl)) (λ _ _ _ l. l)
    (λ _ _ h l. omega (arith, l, ap length h.are, length-halves xs)) bitpix size no_byte no_short hold len

pub words_written : (bitpix : ℤ) (numbers xs : List ℤ) → IsBitpix bitpix → (bitpix ≡ pos 8 → ⊥) → (bitpix ≡ pos 16 → ⊥) → HoldPixels (unsigned_abs bitpix) numbers xs → plain_bytes 32 numbers ≡ plain_bytes (unsigned_abs bitpix) xs
words_written bitpix numbers xs size no_byte no_short hold =
    by_bitpix (λ z. (z ≡ pos 8 → ⊥) → (z ≡ pos 16 → ⊥) → HoldPixels (unsigned_abs z) numbers xs → plain_bytes 32 numbers ≡ plain_bytes (unsigned_abs z) xs)
    (λ f _ _. absurd (f refl)) (λ _ f _. absurd (f refl)) (λ _ _ h. ap (plain_bytes 32) h.are)
    (λ _ _ h. ap (plain_bytes 32) h.are ∙ sym (plain-halves xs (recursion_from_All (IsNumber 64) xs h.pixels))) bitpix size no_byte no_short hold
