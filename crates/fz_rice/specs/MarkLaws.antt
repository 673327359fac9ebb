-- What the laws of marks say.
use Rattle.std.specs.Prelude.{◌≡◌, ℕ, ◌+◌, ◌/◌, ◌%◌, ◌^◌, ◌<◌, ◌≤◌, Bool, ℤ, List, ◌++◌, length, take, drop, All, Err}
use Rattle.fz_bits.specs.Bits.{bits_of}
use Rattle.fz_rice.specs.Numbers.{IsWidth, IsNumber}
use Rattle.fz_rice.specs.Prefix.{BeginsWith}
use Rattle.fz_rice.specs.Reading.{number_at}
use Rattle.fz_rice.specs.Marks.{IsMark, ReadsOn, StopsAfter, with_before}
use Rattle.fz_rice.specs.declared.coder.CodeFault.{CodeFault}
use Rattle.fz_rice.specs.declared.marks.Mark.{Mark}

-- w bits hold what a mark has of the number before
abbrev pub HoldsLast : Type 0
HoldsLast = (w block : ℕ) (xs : List ℤ) (bits : List Bool) (mark : Mark) → IsWidth w → IsMark w block xs bits mark → mark.last < 2 ^ w

-- numbers that are read on are numbers of w bits
abbrev pub ReadsNumbersOn : Type 0
ReadsNumbersOn = (w block : ℕ) (bits : List Bool) (mark next : Mark) (ys : List ℤ) → IsWidth w → ReadsOn w block bits mark ys next → All (IsNumber w) ys

-- before a mark is a code of the numbers
abbrev pub IsWholeBefore : Type 0
IsWholeBefore = (w block : ℕ) (xs : List ℤ) (bits : List Bool) (mark : Mark) → IsWidth w → 1 ≤ block
    → IsMark w block xs bits mark → BeginsWith w block xs ((mark.bit + 7) / 8) bits

-- what is read on from a mark after whole blocks leads to a mark after all numbers
abbrev pub LeadsOn : Type 0
LeadsOn = (w block : ℕ) (xs ys : List ℤ) (bits : List Bool) (mark next : Mark) → 1 ≤ block → length xs % block ≡ 0
    → IsMark w block xs bits mark → ReadsOn w block bits mark ys next → IsMark w block (xs ++ ys) bits next

-- the numbers before a mark are the first ones of each code of no fewer numbers that the bits begin with
abbrev pub IsFront : Type 0
IsFront = (w block : ℕ) (xs ys : List ℤ) (bytes : ℕ) (bits : List Bool) (mark : Mark) → IsWidth w → 1 ≤ block
    → length ys ≤ length xs → BeginsWith w block xs bytes bits → IsMark w block ys bits mark → ys ≡ take (length ys) xs

-- and those that are read on are the next ones
abbrev pub AreNext : Type 0
AreNext = (w block : ℕ) (xs ys zs : List ℤ) (bytes : ℕ) (bits : List Bool) (mark next : Mark) → IsWidth w → 1 ≤ block
    → length ys % block ≡ 0 → length ys + length zs ≤ length xs → BeginsWith w block xs bytes bits
    → IsMark w block ys bits mark → ReadsOn w block bits mark zs next → zs ≡ take (length zs) (drop (length ys) xs)

-- reading on within such a code meets no fault
abbrev pub NeverStops : Type 0
NeverStops = (w block : ℕ) (xs ys : List ℤ) (bytes n : ℕ) (bits : List Bool) (mark : Mark) (e : CodeFault) → IsWidth w → 1 ≤ block
    → length ys % block ≡ 0 → length ys + n ≤ length xs → BeginsWith w block xs bytes bits
    → IsMark w block ys bits mark → StopsAfter w block bits mark n e → ⊥

-- and such a code has a start value
abbrev pub HasStart : Type 0
HasStart = (w block : ℕ) (xs : List ℤ) (bytes : ℕ) (bits : List Bool) (e : CodeFault) → IsWidth w → 1 ≤ block
    → BeginsWith w block xs bytes bits → number_at w bits ≡ Err e → ⊥

-- what is read on in the bytes from one on is read on in all bytes
abbrev pub ReadsOnInAll : Type 0
ReadsOnInAll = (w block k : ℕ) (bytes : List ℕ) (ys : List ℤ) (mark next : Mark) → k ≤ length bytes
    → ReadsOn w block (bits_of (drop k bytes)) mark ys next
    → ReadsOn w block (bits_of bytes) (with_before k mark) ys (with_before k next)

-- and it stops for the same reason
abbrev pub StopsInAll : Type 0
StopsInAll = (w block k n : ℕ) (bytes : List ℕ) (mark : Mark) (e : CodeFault)
    → StopsAfter w block (bits_of (drop k bytes)) mark n e → StopsAfter w block (bits_of bytes) (with_before k mark) n e
