-- What a caller in C asks for by numbers.
use Rattle.std.specs.Prelude.{◌≡◌, ℕ, ◌==◌, ℤ, List, Option, Some, None, if◌then◌else◌}
use Rattle.fz_tile.specs.declared.codec.Codec.{Codec}
use Rattle.fz_tile.specs.declared.codec.Codec.TheVariants.{Rice, Plio, Plain}
use Rattle.fz_tile.specs.declared.coded.Place2.{Place2}
use Rattle.fz_tile.specs.declared.coded.Place2.TheVariants.{Coded, Stored}
use Rattle.fz_tile.specs.Pixels.{HoldPixels}
use Rattle.fz_tile.specs.Codecs.{CanRead, CanWrite}

-- the codec of this number, with BLOCKSIZE and BYTEPIX: 0 NOCOMPRESS, 1 RICE_1, 2 PLIO_1
abbrev pub codec_of : ℕ → ℕ → ℕ → Option Codec
codec_of number block bytepix =
    if number == 0 then Some Plain else (if number == 1 then Some (Rice block bytepix) else (if number == 2 then Some Plio else None))

-- the column of this number: 0 COMPRESSED_DATA, 1 UNCOMPRESSED_DATA
abbrev pub column_of : ℕ → Option Place2
column_of number = if number == 0 then Some Coded else (if number == 1 then Some Stored else None)

-- this is the codec that is asked for, and tiles of such pixels can be read by it
abbrev pub HasReader : Option Codec → ℤ → Codec → Type 0
HasReader asked bitpix codec = (asked ≡ Some codec) × CanRead codec bitpix

abbrev pub HasNoReader : Option Codec → ℤ → Type 0
HasNoReader asked bitpix = (codec : Codec) → ¬ HasReader asked bitpix codec

-- this is the codec that is asked for, and tiles of such pixels can be written by it
abbrev pub HasWriter : Option Codec → ℤ → Codec → Type 0
HasWriter asked bitpix codec = (asked ≡ Some codec) × CanWrite codec bitpix

abbrev pub HasNoWriter : Option Codec → ℤ → Type 0
HasNoWriter asked bitpix = (codec : Codec) → ¬ HasWriter asked bitpix codec

-- the places hold some pixels, each in the range of BITPIX
abbrev pub HoldSome : ℕ → List ℤ → Type 0
HoldSome bitpix numbers = (xs : List ℤ) × HoldPixels bitpix numbers xs
