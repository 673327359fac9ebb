-- Pixels as bytes: big-endian, unsigned at 8 bits, in two's complement at 16, 32 and 64 (FITS 4.0, section 5.2).
use Rattle.std.specs.Prelude.{ℕ, ◌==◌, ◌*◌, ◌/◌, ◌<◌, ℤ, pos, List, map, take, drop, All, if◌then◌else◌}
use Rattle.std.specs.List.{flat_map, range_with_len}
use Rattle.std.specs.Int.{Width, w8, w16, w32, w64, to_be_bytes, from_be_bytes, cast_unsigned, cast_signed}

-- each number is a byte
abbrev pub AreBytes : List ℕ → Type 0
AreBytes bytes = All (λ byte. byte < 256) bytes

-- the width of a pixel
abbrev pub pixel_width : ℕ → Width
pixel_width bitpix = if bitpix == 8 then w8 else (if bitpix == 16 then w16 else (if bitpix == 32 then w32 else w64))

-- the bytes of one pixel
abbrev pub pixel_bytes : ℕ → ℤ → List ℕ
pixel_bytes bitpix x = to_be_bytes (pixel_width bitpix) (cast_unsigned (pixel_width bitpix) x)

-- the bytes of pixels, one after another
abbrev pub plain_bytes : ℕ → List ℤ → List ℕ
plain_bytes bitpix xs = flat_map (pixel_bytes bitpix) xs

-- the pixel that these bytes store
abbrev pub pixel_of : ℕ → List ℕ → ℤ
pixel_of bitpix bytes =
    if bitpix == 8 then pos (from_be_bytes w8 bytes) else cast_signed (pixel_width bitpix) (from_be_bytes (pixel_width bitpix) bytes)

-- so many pixels that these bytes store, one after another
abbrev pub stored_pixels : ℕ → ℕ → List ℕ → List ℤ
stored_pixels bitpix count bytes =
    map (λ i. pixel_of bitpix (take (bitpix / 8) (drop (bitpix / 8 * i) bytes))) (range_with_len 0 count)
