-- Rice codes that are read in parts (FITS 4.0, section 10.4.1).
use Rattle.std.specs.Prelude.{◌≡◌, ℕ, ◌+◌, ◌*◌, ◌%◌, ◌^◌, ◌<◌, ◌≤◌, Bool, ℤ, List, [], Err, length, take, drop, Option, MatchOption}
use Rattle.fz_bits.specs.Bits.{bits_of}
use Rattle.fz_rice.specs.Reading.{number_at}
use Rattle.fz_rice.specs.Marks.{IsMark, ReadsOn, StopsAfter, with_before}
use Rattle.fz_rice.specs.declared.coder.CodeFault.{CodeFault}
use Rattle.fz_rice.specs.declared.marks.Mark.{Mark}
use Rattle.fz_tile.specs.declared.codec.Codec.{Codec}
use Rattle.fz_tile.specs.declared.codec.Codec.TheVariants.{Rice, Plio, Plain}
use Rattle.fz_tile.specs.declared.coded.Place2.TheVariants.{Coded}
use Rattle.fz_tile.specs.Record.{IsRecord}

-- so many pixels are whole blocks of a Rice code
abbrev pub AreWholeBlocks : Codec → ℕ → Type 0
AreWholeBlocks (Rice block bytepix) n = n % block ≡ 0
AreWholeBlocks Plio n = ⊥
AreWholeBlocks Plain n = ⊥

-- the code in these bytes is read on from the mark after its first i pixels, which are whole blocks
abbrev pub IsMarkAfter : Codec → List ℕ → ℕ → Mark → Type 0
IsMarkAfter (Rice block bytepix) read i mark = (ys : List ℤ) × (length ys ≡ i) × (i % block ≡ 0) × IsMark (8 * bytepix) block ys (bits_of read) mark
IsMarkAfter Plio read i mark = ⊥
IsMarkAfter Plain read i mark = ⊥

-- `code` is a record without its first bytes; the record stands for the pixels, and is read on from the mark after the first i
pub record IsRest (codec : Codec) (bitpix : ℕ) (code : List ℕ) (mark : Mark) (first total i : ℕ) (read : List ℕ) (xs : List ℤ) : Type 0 where
  pub within : first ≤ length read
  pub stands : IsRecord codec bitpix Coded total read xs
  pub code_is : code ≡ drop first read
  pub mark_is : IsMarkAfter codec read i (with_before first mark)

-- the numbers are the pixels from pixel i on; after whole blocks the code is read on from the next mark
pub record IsPart (codec : Codec) (first i : ℕ) (read : List ℕ) (xs numbers : List ℤ) (next : Mark) : Type 0 where
  pub pixels : numbers ≡ take (length numbers) (drop i xs)
  pub next_is : AreWholeBlocks codec (length numbers) → IsMarkAfter codec read (i + length numbers) (with_before first next)

-- of every record whose rest this is, and that has so many pixels more, the next n were read
abbrev pub ReadsPart : Codec → ℕ → List ℕ → Mark → ℕ → List ℤ → Option Mark → Type 0
ReadsPart codec bitpix code mark n numbers result = (first total i : ℕ) (read : List ℕ) (xs : List ℤ)
    → IsRest codec bitpix code mark first total i read xs → i + n ≤ length xs
    → MatchOption result ⊥ (λ next. IsPart codec first i read xs numbers next)

-- the numbers of the code from the mark on were read, or there are none
abbrev pub ReadsCodeOn : ℕ → ℕ → List ℕ → Mark → ℕ → List ℤ → Option Mark → Type 0
ReadsCodeOn w block code mark n numbers result = MatchOption result
    (mark.bit ≤ 8 * length code → mark.last < 2 ^ w → (e : CodeFault) × StopsAfter w block (bits_of code) mark n e)
    (λ next. ReadsOn w block (bits_of code) mark numbers next)

-- no numbers are before the mark in these bits, or they have no start value
abbrev pub HasStartMark : ℕ → List Bool → Option Mark → Type 0
HasStartMark w bits result = MatchOption result ((e : CodeFault) × (number_at w bits ≡ Err e)) (λ mark. (block : ℕ) → IsMark w block [] bits mark)

-- a record of a Rice code that stands for some pixels is read from this mark on
abbrev pub HasFirstMark : Codec → ℕ → List ℕ → Option Mark → Type 0
HasFirstMark codec bitpix code result = MatchOption result
    ((block bytepix total : ℕ) (xs : List ℤ) → codec ≡ Rice block bytepix → IsRecord codec bitpix Coded total code xs → ⊥)
    (IsMarkAfter codec code 0)
