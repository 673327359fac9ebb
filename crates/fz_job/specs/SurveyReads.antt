-- Ranges that were read, within places of a file that are named.
use Rattle.std.specs.Prelude.{ℕ, List, Contains}
use Rattle.fz_base.specs.Source.{IsRangeBetween}

-- the range is not empty, and lies between the first and the last place of one of these
abbrev pub IsWithinOne : List (ℕ × ℕ) → ℕ × ℕ → Type 0
IsWithinOne places range = (p : ℕ × ℕ) × Contains places p × IsRangeBetween p.0 p.1 range
