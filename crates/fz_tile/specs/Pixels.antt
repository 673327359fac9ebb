-- The pixels of a tile and the places that hold them. BITPIX of an image of integers is 8, 16, 32 or 64
-- (FITS 4.0, section 4.4.1.1); a place holds 32 bits, so that a pixel of 64 bits takes two.
use Rattle.std.specs.Prelude.{◌≡◌, ℕ, ◌*◌, ◌/◌, ◌%◌, ◌^◌, ◌≤◌, ◌==◌, ◌⊎◌, ℤ, pos, List, [], ◌∷◌, All, if◌then◌else◌}
use Rattle.std.specs.List.{flat_map}
use Rattle.std.specs.Int.{w32, w64, cast_unsigned, cast_signed, int_div_euclid}
use Rattle.fz_bits.specs.Numbers.{IsNumber}

-- BITPIX of an image of integers: the bits of a pixel
abbrev pub IsBitpix : ℤ → Type 0
IsBitpix bitpix = (bitpix ≡ pos 8) ⊎ ((bitpix ≡ pos 16) ⊎ ((bitpix ≡ pos 32) ⊎ (bitpix ≡ pos 64)))

-- a pixel divided by 2^32 and rounded down
abbrev pub upper_half : ℤ → ℤ
upper_half x = int_div_euclid x (pos (2 ^ 32))

-- the lower 32 bits of a pixel, read as signed
abbrev pub lower_half : ℤ → ℤ
lower_half x = cast_signed w32 (cast_unsigned w64 x % 2 ^ 32)

-- the two halves of a pixel of 64 bits, the upper one first
abbrev pub halves : ℤ → List ℤ
halves x = upper_half x ∷ lower_half x ∷ []

-- the places of pixels: one each, and two each at 64 bits
abbrev pub places : ℕ → List ℤ → List ℤ
places bitpix xs = if bitpix == 64 then flat_map halves xs else xs

-- how many places so many pixels take
abbrev pub place_count : ℕ → ℕ → ℕ
place_count bitpix n = if bitpix == 64 then 2 * n else n

-- how many pixels so many places hold
abbrev pub pixel_count : ℕ → ℕ → ℕ
pixel_count bitpix n = if bitpix == 64 then n / 2 else n

-- so many places hold whole pixels: an even number of them at 64 bits
abbrev pub HoldWhole : ℕ → ℕ → Type 0
HoldWhole bitpix count = count ≡ place_count bitpix (pixel_count bitpix count)

-- these places hold these pixels, each in the range of BITPIX: unsigned at 8 bits, in two's complement at
-- 16, 32 and 64 (FITS 4.0, section 5.2)
pub record HoldPixels (bitpix : ℕ) (numbers xs : List ℤ) : Type 0 where
  pub pixels : All (IsNumber bitpix) xs
  pub are : numbers ≡ places bitpix xs

-- so many places hold a tile: as many pixels as a tile may have
pub record HoldTile (bitpix count : ℕ) : Type 0 where
  pub even : HoldWhole bitpix count
  pub some : 1 ≤ pixel_count bitpix count
  pub most : pixel_count bitpix count ≤ 2 ^ 26
