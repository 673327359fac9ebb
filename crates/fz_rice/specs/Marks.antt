-- Marks: where a code is read on from the middle.
use Rattle.std.specs.Prelude.{◌≡◌, ℕ, ◌+◌, ◌*◌, ◌≤◌, Bool, ℤ, List, length, drop, Ok, Err}
use Rattle.fz_rice.specs.Reading.{number_at, blocks_at, numbers_from, last_of}
use Rattle.fz_rice.specs.declared.coder.CodeFault.{CodeFault}
use Rattle.fz_rice.specs.declared.marks.Mark.{Mark}

-- The bits begin with a start value and blocks of the numbers. After the blocks are the bits from the mark on, and
-- `last` of the mark is the residue of the last number, or the start value if there is none.
pub record IsMark (w block : ℕ) (xs : List ℤ) (bits : List Bool) (mark : Mark) : Type 0 where
  pub start : ℕ
  pub first : List Bool
  pub begins : number_at w bits ≡ Ok (start, first)
  pub values : List ℕ
  pub blocks : blocks_at w block (length xs) (length xs) first ≡ Ok (values, drop mark.bit bits)
  pub numbers_are : xs ≡ numbers_from w start values
  pub last_is : mark.last ≡ last_of w start values
  pub within : mark.bit ≤ length bits

-- from the mark on the bits have blocks of the numbers, and the next mark is after them
pub record ReadsOn (w block : ℕ) (bits : List Bool) (mark : Mark) (ys : List ℤ) (next : Mark) : Type 0 where
  pub values : List ℕ
  pub blocks : blocks_at w block (length ys) (length ys) (drop mark.bit bits) ≡ Ok (values, drop next.bit bits)
  pub numbers_are : ys ≡ numbers_from w mark.last values
  pub last_is : next.last ≡ last_of w mark.last values
  pub within : next.bit ≤ length bits

-- from the mark on the bits have no blocks of n numbers, for this reason
abbrev pub StopsAfter : ℕ → ℕ → List Bool → Mark → ℕ → CodeFault → Type 0
StopsAfter w block bits mark n e = blocks_at w block n n (drop mark.bit bits) ≡ Err e

-- the same mark if so many more bytes are before it
abbrev pub with_before : ℕ → Mark → Mark
with_before bytes mark = record { bit = 8 * bytes + mark.bit; last = mark.last }
