-- What the answers of the two calls of tiles say (FITS 4.0, section 10.1.3). Each test comes after those before it, so that
-- one answer has one cause.
use Rattle.std.specs.Prelude.{◌≡◌, ℕ, ◌+◌, ◌*◌, ◌≤◌, ℤ, pos, List, length, take, Option, Some, None, unsigned_abs}
use Rattle.fz_tile.specs.declared.codec.Codec.{Codec}
use Rattle.fz_tile.specs.declared.coded.Place2.{Place2}
use Rattle.fz_tile.specs.declared.fault.TileFault.{TileFault}
use Rattle.fz_tile.specs.Pixels.{HoldPixels, HoldTile, pixel_count}
use Rattle.fz_tile.specs.Record.{IsRecord, read_len}
use Rattle.fz_tile.specs.Refusals.{IsFault}
use Rattle.fz_tile.specs.TileCode.{tile_code, IsWritten}
use Rattle.fz_c.specs.declared.fault.Fault.TheVariants.{Refused, NoCodec, NoColumn, NoTile}
use Rattle.fz_c.specs.declared.fault.Fault.TheVariants.{FewBytes, NoRoom, NumberRange}
use Rattle.fz_c.specs.Faults.{answer_of}
use Rattle.fz_c.specs.Asked.{column_of, HasReader, HasNoReader, HasWriter, HasNoWriter, HoldSome}

-- the pixels in so many places
abbrev pub pixels_in : ℤ → ℕ → ℕ
pixels_in bitpix count = pixel_count (unsigned_abs bitpix) count

-- so many places hold a tile, which is read by this codec from this column
pub record IsTile (asked : Option Codec) (bitpix : ℤ) (column : Option Place2) (count : ℕ) (codec : Codec) (place : Place2)
    : Type 0 where
  pub codec_is : HasReader asked bitpix codec
  pub column_is : column ≡ Some place
  pub tile : HoldTile (unsigned_abs bitpix) count

-- what is read of a record of `total` bytes
abbrev pub read_of : ℤ → ℕ → ℕ → List ℕ → List ℕ
read_of bitpix count total code = take (read_len (pixels_in bitpix count) total) code

-- the bytes have all that is read of the record
abbrev pub HasRead : ℤ → ℕ → ℕ → List ℕ → Type 0
HasRead bitpix count total code = read_len (pixels_in bitpix count) total ≤ length code

-- the record stands for pixels, and the places hold them
pub record Means (codec : Codec) (bitpix : ℤ) (place : Place2) (code : List ℕ) (total count : ℕ) (numbers : List ℤ)
    : Type 0 where
  pub xs : List ℤ
  pub len : length xs ≡ pixels_in bitpix count
  pub record_is : IsRecord codec (unsigned_abs bitpix) place total (read_of bitpix count total code) xs
  pub held : HoldPixels (unsigned_abs bitpix) numbers xs

-- the record stands for no so many pixels, for this reason
abbrev pub IsFaulty : Codec → ℤ → Place2 → List ℕ → ℕ → ℕ → TileFault → Type 0
IsFaulty codec bitpix place code total count why =
    IsFault codec (unsigned_abs bitpix) place total (read_of bitpix count total code) (pixels_in bitpix count) why

-- the answer of `fz_decode_tile`
pub data Decodes (asked : Option Codec) (bitpix : ℤ) (column : Option Place2) (code : List ℕ) (total count : ℕ)
    (numbers : List ℤ) (answer : ℤ) : Type 0 where
  -- the record stands for the pixels that the places hold
  done : answer ≡ pos 0 → (codec : Codec) (place : Place2) → IsTile asked bitpix column count codec place
      → HasRead bitpix count total code → Means codec bitpix place code total count numbers
      → Decodes asked bitpix column code total count numbers answer
  -- the record stands for no so many pixels
  refused : (why : TileFault) → answer ≡ answer_of (Refused why) → (codec : Codec) (place : Place2)
      → IsTile asked bitpix column count codec place → HasRead bitpix count total code
      → IsFaulty codec bitpix place code total count why
      → Decodes asked bitpix column code total count numbers answer
  -- no codec is asked for that reads such pixels
  no_codec : answer ≡ answer_of NoCodec → HasNoReader asked bitpix
      → Decodes asked bitpix column code total count numbers answer
  -- no column is asked for
  no_column : answer ≡ answer_of NoColumn → (codec : Codec) → HasReader asked bitpix codec → column ≡ None
      → Decodes asked bitpix column code total count numbers answer
  -- so many places hold no tile
  no_tile : answer ≡ answer_of NoTile → (codec : Codec) (place : Place2) → HasReader asked bitpix codec
      → column ≡ Some place → ¬ HoldTile (unsigned_abs bitpix) count
      → Decodes asked bitpix column code total count numbers answer
  -- some bytes of what is read are missing
  few_bytes : answer ≡ answer_of FewBytes → (codec : Codec) (place : Place2) → IsTile asked bitpix column count codec place
      → ¬ HasRead bitpix count total code → Decodes asked bitpix column code total count numbers answer

-- so many places hold a tile, which is written by this codec
pub record CanEncode (asked : Option Codec) (bitpix : ℤ) (count : ℕ) (codec : Codec) : Type 0 where
  pub codec_is : HasWriter asked bitpix codec
  pub tile : HoldTile (unsigned_abs bitpix) count

-- there is room for the bytes of every tile in so many places
abbrev pub HasRoom : ℤ → ℕ → ℕ → Type 0
HasRoom bitpix count room = 8 * pixels_in bitpix count + 64 ≤ room

-- the bytes of the tile in these places are at the front of `out`
abbrev pub IsTileWritten : Codec → ℤ → List ℤ → Place2 → ℕ → List ℕ → Type 0
IsTileWritten codec bitpix numbers place len out = (xs : List ℤ) → HoldPixels (unsigned_abs bitpix) numbers xs
    → IsWritten (tile_code codec (unsigned_abs bitpix) xs) place len out

-- the answer of `fz_encode_tile`
pub data Encodes (asked : Option Codec) (bitpix : ℤ) (numbers : List ℤ) (room column len : ℕ) (out : List ℕ) (answer : ℤ)
    : Type 0 where
  -- the bytes of the tile are at the front of `out`
  done : answer ≡ pos 0 → (codec : Codec) (place : Place2) → CanEncode asked bitpix (length numbers) codec
      → HasRoom bitpix (length numbers) room → HoldSome (unsigned_abs bitpix) numbers → column_of column ≡ Some place
      → IsTileWritten codec bitpix numbers place len out → Encodes asked bitpix numbers room column len out answer
  -- no codec is asked for that writes such pixels
  no_codec : answer ≡ answer_of NoCodec → HasNoWriter asked bitpix
      → Encodes asked bitpix numbers room column len out answer
  -- so many places hold no tile
  no_tile : answer ≡ answer_of NoTile → (codec : Codec) → HasWriter asked bitpix codec
      → ¬ HoldTile (unsigned_abs bitpix) (length numbers) → Encodes asked bitpix numbers room column len out answer
  -- the room is too short
  no_room : answer ≡ answer_of NoRoom → (codec : Codec) → CanEncode asked bitpix (length numbers) codec
      → ¬ HasRoom bitpix (length numbers) room → Encodes asked bitpix numbers room column len out answer
  -- a pixel is outside the range of BITPIX
  out_of_range : answer ≡ answer_of NumberRange → (codec : Codec) → CanEncode asked bitpix (length numbers) codec
      → HasRoom bitpix (length numbers) room → ¬ HoldSome (unsigned_abs bitpix) numbers
      → Encodes asked bitpix numbers room column len out answer
