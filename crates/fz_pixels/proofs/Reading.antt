-- Rows that were read together, and the ranges that were read for them.
use Rattle.std.proofs.Common.{ℕ, ◌+◌, inl, inr, List, [], ◌∷◌, ◌++◌}
use Rattle.fz_base.specs.Ranges.{LiesIn}

-- ---- ranges

-- a byte of one of two lists of ranges is one of both
pub in_first : (xs ys : List (ℕ × ℕ)) (byte : ℕ) → LiesIn xs byte → LiesIn (xs ++ ys) byte
in_first [] ys byte lies = elim lies [ ]
in_first ((start, count) ∷ xs) ys byte (inl here) = inl here
in_first ((start, count) ∷ xs) ys byte (inr later) = inr (in_first xs ys byte later)

pub in_second : (xs ys : List (ℕ × ℕ)) (byte : ℕ) → LiesIn ys byte → LiesIn (xs ++ ys) byte
in_second [] ys byte lies = lies
in_second ((start, count) ∷ xs) ys byte lies = inr (in_second xs ys byte lies)
