-- What the laws of this crate say, over only the definitions.
use Rattle.std.specs.Prelude.{◌≡◌, ℕ, ◌+◌, ◌*◌, ◌/◌, ◌^◌, ◌≤◌, ℤ, pos, List, length, take, drop, All}
use Rattle.fz_bits.specs.Numbers.{IsNumber}
use Rattle.fz_tile.specs.declared.codec.Codec.{Codec}
use Rattle.fz_tile.specs.declared.coded.Place2.{Place2}
use Rattle.fz_tile.specs.declared.fault.TileFault.{TileFault}
use Rattle.fz_tile.specs.Plain.{AreBytes, plain_bytes, stored_pixels}
use Rattle.fz_tile.specs.Pixels.{IsBitpix, HoldPixels, place_count}
use Rattle.fz_tile.specs.Codecs.{CanRead, CanWrite}
use Rattle.fz_tile.specs.Record.{IsRecordOf}
use Rattle.fz_tile.specs.Refusals.{IsFault}
use Rattle.fz_tile.specs.TileCode.{tile_code, AreElements}

-- ---- records

-- a record that stands for n pixels is not refused
abbrev pub StandsUnrefused : Type 0
StandsUnrefused = (codec : Codec) (bitpix total n : ℕ) (place : Place2) (read : List ℕ) (fault : TileFault) → CanRead codec (pos bitpix)
    → IsRecordOf codec bitpix place total read n → ¬ IsFault codec bitpix place total read n fault

-- a record is refused in one way at most
abbrev pub IsRefusedOnce : Type 0
IsRefusedOnce = (codec : Codec) (bitpix total n : ℕ) (place : Place2) (read : List ℕ) (fault other : TileFault) → CanRead codec (pos bitpix)
    → IsFault codec bitpix place total read n fault → IsFault codec bitpix place total read n other → other ≡ fault

-- what is written for a tile is some elements of its column, and no longer than the plain bytes
abbrev pub FillsColumn : Type 0
FillsColumn = (codec : Codec) (bitpix : ℕ) (xs : List ℤ) → CanWrite codec (pos bitpix) → 1 ≤ length xs → length xs ≤ 2 ^ 26
    → AreElements codec bitpix (length xs) (tile_code codec bitpix xs)

-- ---- plain bytes

-- plain bytes are as many as the pixels and their size say
abbrev pub HasPlainLen : Type 0
HasPlainLen = (bitpix : ℕ) (xs : List ℤ) → IsBitpix (pos bitpix) → length (plain_bytes bitpix xs) ≡ bitpix / 8 * length xs

-- the plain bytes of the pixels that bytes store are these bytes
abbrev pub GivesBytesAgain : Type 0
GivesBytesAgain = (bitpix n : ℕ) (bytes : List ℕ) → IsBitpix (pos bitpix) → AreBytes bytes → length bytes ≡ bitpix / 8 * n
    → plain_bytes bitpix (stored_pixels bitpix n bytes) ≡ bytes

-- the pixels that the plain bytes of pixels store are these pixels
abbrev pub GivesPixelsAgain : Type 0
GivesPixelsAgain = (bitpix : ℕ) (xs : List ℤ) → IsBitpix (pos bitpix) → All (IsNumber bitpix) xs
    → stored_pixels bitpix (length xs) (plain_bytes bitpix xs) ≡ xs

-- bytes store as many pixels as are asked for, each in the range of BITPIX
abbrev pub StoresPixels : Type 0
StoresPixels = (bitpix n : ℕ) (bytes : List ℕ) → IsBitpix (pos bitpix) → AreBytes bytes
    → (length (stored_pixels bitpix n bytes) ≡ n) × All (IsNumber bitpix) (stored_pixels bitpix n bytes)

-- ---- slices: n pixels from pixel i on

-- their plain bytes are a slice of the plain bytes
abbrev pub SlicesBytes : Type 0
SlicesBytes = (bitpix i n : ℕ) (xs : List ℤ) → IsBitpix (pos bitpix)
    → plain_bytes bitpix (take n (drop i xs)) ≡ take (bitpix / 8 * n) (drop (bitpix / 8 * i) (plain_bytes bitpix xs))

-- they are stored in a slice of the bytes
abbrev pub SlicesPixels : Type 0
SlicesPixels = (bitpix i n count : ℕ) (bytes : List ℕ) → i + n ≤ count
    → take n (drop i (stored_pixels bitpix count bytes)) ≡ stored_pixels bitpix n (take (bitpix / 8 * n) (drop (bitpix / 8 * i) bytes))

-- their places are a slice of the places
abbrev pub SlicesPlaces : Type 0
SlicesPlaces = (bitpix i n : ℕ) (numbers xs : List ℤ) → HoldPixels bitpix numbers xs
    → HoldPixels bitpix (take (place_count bitpix n) (drop (place_count bitpix i) numbers)) (take n (drop i xs))
