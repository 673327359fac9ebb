-- What the answers of the calls of single codes say: Rice codes and line lists (FITS 4.0, sections 10.4.1 and 10.4.3). Each
-- test comes after those before it, so that one answer has one cause.
use Rattle.std.specs.Prelude.{◌≡◌, ℕ, ◌^◌, ◌<◌, ◌≤◌, ℤ, pos, List, length, take, drop, ◌++◌, All}
use Rattle.fz_bits.specs.Bits.{bits_of}
use Rattle.fz_bits.specs.Numbers.{IsNumber}
use Rattle.fz_rice.specs.Numbers.{IsWidth}
use Rattle.fz_rice.specs.Prefix.{BeginsWith, BeginsWithCode, IsBeginning}
use Rattle.fz_rice.specs.Producer.{rice_bytes}
use Rattle.fz_plio.specs.Meaning.{IsLineList, IsRefused}
use Rattle.fz_plio.specs.Producer.{InRange, IsFirstOutside, line_list}
use Rattle.fz_tile.specs.declared.fault.TileFault.TheVariants.{CodeShort, CodeValue, LineList}
use Rattle.fz_tile.specs.Codecs.{IsBlock}
use Rattle.fz_c.specs.declared.fault.Fault.TheVariants.{Refused, NoCodec, NoTile, NoRoom, NumberRange, ManyBytes}
use Rattle.fz_c.specs.Faults.{answer_of}

-- a Rice code may have so many bits for a number, and so many numbers in a block
abbrev pub IsRice : ℕ → ℕ → Type 0
IsRice width block = IsWidth width × IsBlock block

-- the answer of `fz_rice_decode`
pub data ReadsRice (width block : ℕ) (code : List ℕ) (count : ℕ) (numbers : List ℤ) (used : ℕ) (answer : ℤ) : Type 0 where
  -- the bytes begin with a code of the numbers, which takes so many of them
  done : answer ≡ pos 0 → IsRice width block → length code ≤ 2 ^ 60 → BeginsWith width block numbers used (bits_of code)
      → ReadsRice width block code count numbers used answer
  -- the code ends early
  short : answer ≡ answer_of (Refused CodeShort) → IsRice width block → length code ≤ 2 ^ 60
      → IsBeginning width block count (bits_of code) → ReadsRice width block code count numbers used answer
  -- no code of so many numbers begins so
  unlawful : answer ≡ answer_of (Refused CodeValue) → IsRice width block → length code ≤ 2 ^ 60
      → ¬ BeginsWithCode width block count (bits_of code) → ¬ IsBeginning width block count (bits_of code)
      → ReadsRice width block code count numbers used answer
  -- there is no such code
  no_codec : answer ≡ answer_of NoCodec → ¬ IsRice width block → ReadsRice width block code count numbers used answer
  -- these are too many bytes
  many_bytes : answer ≡ answer_of ManyBytes → IsRice width block → 2 ^ 60 < length code
      → ReadsRice width block code count numbers used answer

-- bytes were written at the front of `out`, which has so much room
pub record IsAtFront (bytes : List ℕ) (room used : ℕ) (out : List ℕ) : Type 0 where
  pub used_is : used ≡ length bytes
  pub within : used ≤ room
  pub bytes_are : take used out ≡ bytes

-- the answer of `fz_rice_encode`
pub data WritesRice (width block : ℕ) (numbers : List ℤ) (room : ℕ) (out : List ℕ) (used : ℕ) (answer : ℤ) : Type 0 where
  -- the code is at the front of `out`
  done : answer ≡ pos 0 → IsRice width block → 1 ≤ length numbers → All (IsNumber width) numbers
      → IsAtFront (rice_bytes width block numbers) room used out → WritesRice width block numbers room out used answer
  -- there is no such code
  no_codec : answer ≡ answer_of NoCodec → ¬ IsRice width block → WritesRice width block numbers room out used answer
  -- there is no number
  no_tile : answer ≡ answer_of NoTile → IsRice width block → length numbers ≡ 0
      → WritesRice width block numbers room out used answer
  -- a number is outside the range of the code
  out_of_range : answer ≡ answer_of NumberRange → IsRice width block → 1 ≤ length numbers → ¬ All (IsNumber width) numbers
      → WritesRice width block numbers room out used answer
  -- the code is longer than `out`
  no_room : answer ≡ answer_of NoRoom → IsRice width block → 1 ≤ length numbers → All (IsNumber width) numbers
      → room < length (rice_bytes width block numbers) → WritesRice width block numbers room out used answer

-- the answer of `fz_plio_decode`, for any bytes and any number of places
pub data ReadsLine (code : List ℕ) (count : ℕ) (numbers : List ℤ) (answer : ℤ) : Type 0 where
  -- the list means the numbers
  done : answer ≡ pos 0 → IsLineList count code numbers → ReadsLine code count numbers answer
  -- the list is refused
  refused : answer ≡ answer_of (Refused LineList) → IsRefused count code → ReadsLine code count numbers answer

-- the answer of `fz_plio_encode`
pub data WritesLine (numbers : List ℤ) (before out : List ℕ) (used : ℕ) (answer : ℤ) : Type 0 where
  -- the list is at the front of `out`, and what is after it stays
  done : answer ≡ pos 0 → length numbers ≤ 2 ^ 26 → All InRange numbers → used ≡ length (line_list numbers)
      → used ≤ length before → out ≡ line_list numbers ++ drop used before → WritesLine numbers before out used answer
  -- so many numbers are no line
  no_tile : answer ≡ answer_of NoTile → 2 ^ 26 < length numbers → WritesLine numbers before out used answer
  -- no list holds one of the numbers, and nothing was written
  out_of_range : answer ≡ answer_of NumberRange → length numbers ≤ 2 ^ 26 → (index : ℕ) → IsFirstOutside numbers index
      → out ≡ before → WritesLine numbers before out used answer
  -- the list is longer than `out`
  no_room : answer ≡ answer_of NoRoom → length numbers ≤ 2 ^ 26 → All InRange numbers
      → length before < length (line_list numbers) → WritesLine numbers before out used answer
