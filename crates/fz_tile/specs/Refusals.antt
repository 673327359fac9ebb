-- Why a record stands for no n pixels (FITS 4.0, sections 10.1.3 and 10.4).
use Rattle.std.specs.Prelude.{◌≡◌, ◌≢◌, ℕ, ◌+◌, ◌*◌, ◌/◌, ◌<◌, ◌≤◌, ℤ, List, length, All}
use Rattle.fz_bits.specs.Bits.{bits_of}
use Rattle.fz_bits.specs.Numbers.{IsNumber}
use Rattle.fz_rice.specs.Prefix.{BeginsWith, BeginsWithCode, IsBeginning}
use Rattle.fz_plio.specs.Meaning.{IsRefused, IsLineList}
use Rattle.fz_tile.specs.declared.codec.Codec.{Codec}
use Rattle.fz_tile.specs.declared.coded.Place2.{Place2}
use Rattle.fz_tile.specs.declared.fault.TileFault.{TileFault}
use Rattle.fz_tile.specs.declared.fault.TileFault.TheVariants.{CodeShort, CodeValue, LineList, PixelRange, TileSize}
use Rattle.fz_tile.specs.Record.{Form, plain, rice, line, form_of}

-- a number is outside the range of BITPIX
abbrev pub SomeOutside : ℕ → List ℤ → Type 0
SomeOutside bitpix xs = ¬ All (IsNumber bitpix) xs

-- why plain bytes are refused: they have another length than the tile
pub record IsPlainFault (bitpix total n : ℕ) (fault : TileFault) : Type 0 where
  pub kind : fault ≡ TileSize
  pub size : total ≢ bitpix / 8 * n

-- why a Rice code is refused
pub data IsRiceFault (width block bitpix total n : ℕ) (read : List ℕ) (fault : TileFault) : Type 0 where
  -- the code ends early, and all bytes of the record were read
  short : fault ≡ CodeShort → IsBeginning width block n (bits_of read) → total ≤ 8 * n + 64 → IsRiceFault width block bitpix total n read fault
  -- the code ends early, in a record that is longer than what is read
  cut : fault ≡ CodeValue → IsBeginning width block n (bits_of read) → 8 * n + 64 < total → IsRiceFault width block bitpix total n read fault
  -- the code is unlawful
  unlawful : fault ≡ CodeValue → ¬ BeginsWithCode width block n (bits_of read) → ¬ IsBeginning width block n (bits_of read)
      → IsRiceFault width block bitpix total n read fault
  -- a number of the code is outside the range of BITPIX
  out_of_range : fault ≡ PixelRange → (xs : List ℤ) (bytes : ℕ) → length xs ≡ n → BeginsWith width block xs bytes (bits_of read)
      → SomeOutside bitpix xs → IsRiceFault width block bitpix total n read fault

-- why a line list is refused
pub data IsLineFault (bitpix n : ℕ) (read : List ℕ) (fault : TileFault) : Type 0 where
  -- the list is refused
  refused : fault ≡ LineList → IsRefused n read → IsLineFault bitpix n read fault
  -- a number of the list is outside the range of BITPIX
  outside : fault ≡ PixelRange → (xs : List ℤ) → length xs ≡ n → IsLineList n read xs → SomeOutside bitpix xs → IsLineFault bitpix n read fault

-- a record of `total` bytes in this form, of which these are read, is refused in this way
abbrev pub IsFaultIn : Form → ℕ → ℕ → List ℕ → ℕ → TileFault → Type 0
IsFaultIn plain bitpix total read n fault = IsPlainFault bitpix total n fault
IsFaultIn (rice width block) bitpix total read n fault = IsRiceFault width block bitpix total n read fault
IsFaultIn line bitpix total read n fault = IsLineFault bitpix n read fault

-- the same in this place and by this codec
abbrev pub IsFault : Codec → ℕ → Place2 → ℕ → List ℕ → ℕ → TileFault → Type 0
IsFault codec bitpix place total read n fault = IsFaultIn (form_of codec place) bitpix total read n fault
