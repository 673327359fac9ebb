-- What the answers of the calls that read a tile in parts say (FITS 4.0, section 10.4.1).
use Rattle.std.specs.Prelude.{◌≡◌, ℕ, ◌*◌, ◌^◌, ◌<◌, ◌≤◌, ℤ, pos, List, length, All, Option, Some, None, unsigned_abs}
use Rattle.fz_bits.specs.Numbers.{IsNumber}
use Rattle.fz_rice.specs.declared.marks.Mark.{Mark}
use Rattle.fz_tile.specs.declared.codec.Codec.{Codec}
use Rattle.fz_tile.specs.Parts.{HasFirstMark, ReadsPart}
use Rattle.fz_c.specs.declared.fault.Fault.TheVariants.{NoCodec, ManyBytes, NoPart}
use Rattle.fz_c.specs.declared.part.FzMark.{FzMark}
use Rattle.fz_c.specs.Faults.{answer_of}
use Rattle.fz_c.specs.Asked.{HasReader, HasNoReader}

-- the mark that C hands over
abbrev pub mark_of : FzMark → Mark
mark_of mark = record { bit = mark.bit; last = mark.last }

-- tiles of such pixels are read by this codec, and the code has as many bytes as are looked at
pub record CanReadOn (asked : Option Codec) (bitpix : ℤ) (code : List ℕ) (codec : Codec) : Type 0 where
  pub codec_is : HasReader asked bitpix codec
  pub most : length code ≤ 2 ^ 60

-- the answer of `fz_first_mark`
pub data FindsMark (asked : Option Codec) (bitpix : ℤ) (code : List ℕ) (mark : FzMark) (answer : ℤ) : Type 0 where
  -- every record that begins so is read from this mark on
  done : answer ≡ pos 0 → (codec : Codec) → CanReadOn asked bitpix code codec
      → HasFirstMark codec (unsigned_abs bitpix) code (Some (mark_of mark)) → FindsMark asked bitpix code mark answer
  -- no record of a Rice code that stands for pixels begins so
  no_part : answer ≡ answer_of NoPart → (codec : Codec) → CanReadOn asked bitpix code codec
      → HasFirstMark codec (unsigned_abs bitpix) code None → FindsMark asked bitpix code mark answer
  -- no codec is asked for that reads such pixels
  no_codec : answer ≡ answer_of NoCodec → HasNoReader asked bitpix → FindsMark asked bitpix code mark answer
  -- these are too many bytes
  many_bytes : answer ≡ answer_of ManyBytes → (codec : Codec) → HasReader asked bitpix codec → 2 ^ 60 < length code
      → FindsMark asked bitpix code mark answer

-- the answer of `fz_decode_part`
pub data ReadsNext (asked : Option Codec) (bitpix : ℤ) (code : List ℕ) (mark next : FzMark) (count : ℕ) (numbers : List ℤ)
    (answer : ℤ) : Type 0 where
  -- the numbers are the next pixels, in the range of BITPIX, and the next mark is the one after them, within the bytes
  done : answer ≡ pos 0 → (codec : Codec) → CanReadOn asked bitpix code codec
      → ReadsPart codec (unsigned_abs bitpix) code (mark_of mark) count numbers (Some (mark_of next))
      → All (IsNumber (unsigned_abs bitpix)) numbers → next.bit ≤ 8 * length code
      → ReadsNext asked bitpix code mark next count numbers answer
  -- no record has so many pixels more
  no_part : answer ≡ answer_of NoPart → (codec : Codec) → CanReadOn asked bitpix code codec
      → ReadsPart codec (unsigned_abs bitpix) code (mark_of mark) count numbers None
      → ReadsNext asked bitpix code mark next count numbers answer
  -- no codec is asked for that reads such pixels
  no_codec : answer ≡ answer_of NoCodec → HasNoReader asked bitpix
      → ReadsNext asked bitpix code mark next count numbers answer
  -- these are too many bytes
  many_bytes : answer ≡ answer_of ManyBytes → (codec : Codec) → HasReader asked bitpix codec → 2 ^ 60 < length code
      → ReadsNext asked bitpix code mark next count numbers answer
