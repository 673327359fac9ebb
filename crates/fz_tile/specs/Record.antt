-- What a tile's bytes in the heap mean (FITS 4.0, sections 10.1.3 and 10.4). A record is a slice of the heap, of
-- which at most 8 bytes a pixel and 64 more are read.
use Rattle.std.specs.Prelude.{◌≡◌, ℕ, ◌+◌, ◌*◌, ◌/◌, min, ℤ, List, length, All}
use Rattle.fz_bits.specs.Bits.{bits_of}
use Rattle.fz_bits.specs.Numbers.{IsNumber}
use Rattle.fz_rice.specs.Prefix.{BeginsWith}
use Rattle.fz_plio.specs.Meaning.{IsLineList}
use Rattle.fz_tile.specs.declared.codec.Codec.{Codec}
use Rattle.fz_tile.specs.declared.codec.Codec.TheVariants.{Rice, Plio, Plain}
use Rattle.fz_tile.specs.declared.coded.Place2.{Place2}
use Rattle.fz_tile.specs.declared.coded.Place2.TheVariants.{Coded, Stored}
use Rattle.fz_tile.specs.Plain.{plain_bytes}

-- how many bytes are read of a record of `total` bytes, for n pixels
abbrev pub read_len : ℕ → ℕ → ℕ
read_len n total = min total (8 * n + 64)

-- the record is the plain bytes of the pixels
abbrev pub IsStored : ℕ → ℕ → List ℕ → List ℤ → Type 0
IsStored bitpix total read xs = (total ≡ bitpix / 8 * length xs) × (read ≡ plain_bytes bitpix xs)

-- how the bytes of a tile are to be read
pub data Form : Type 0 where
  -- as plain bytes
  plain : Form
  -- as a Rice code of so many bits for a number, in blocks of so many numbers
  rice : (width block : ℕ) → Form
  -- as a line list
  line : Form

-- the form of the tiles in a column: plain bytes in UNCOMPRESSED_DATA, what the codec says in COMPRESSED_DATA
abbrev pub form_of : Codec → Place2 → Form
form_of codec Stored = plain
form_of (Rice block bytepix) Coded = rice (8 * bytepix) block
form_of Plio Coded = line
form_of Plain Coded = plain

-- bytes in this form mean the pixels; after a Rice code there may be more bits
abbrev pub MeansIn : Form → ℕ → ℕ → List ℕ → List ℤ → Type 0
MeansIn plain bitpix total read xs = IsStored bitpix total read xs
MeansIn (rice width block) bitpix total read xs = (bytes : ℕ) × BeginsWith width block xs bytes (bits_of read)
MeansIn line bitpix total read xs = IsLineList (length xs) read xs

-- the bytes mean the pixels, in this place and by this codec
abbrev pub Means : Codec → ℕ → Place2 → ℕ → List ℕ → List ℤ → Type 0
Means codec bitpix place total read xs = MeansIn (form_of codec place) bitpix total read xs

-- a record of `total` bytes, of which these are read, stands for these pixels
pub record IsRecord (codec : Codec) (bitpix : ℕ) (place : Place2) (total : ℕ) (read : List ℕ) (xs : List ℤ) : Type 0 where
  pub plain : bitpix ≡ 64 → codec ≡ Plain
  pub pixels : All (IsNumber bitpix) xs
  pub len : length read ≡ read_len (length xs) total
  pub meaning : Means codec bitpix place total read xs

-- a record stands for some n pixels
abbrev pub IsRecordOf : Codec → ℕ → Place2 → ℕ → List ℕ → ℕ → Type 0
IsRecordOf codec bitpix place total read n = (xs : List ℤ) × (length xs ≡ n) × IsRecord codec bitpix place total read xs
