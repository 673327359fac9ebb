-- Numbers of which one may be none: for functions inside the crate.
use Rattle.std.specs.Prelude.{ℕ, min, Option, Some, None}

-- the length of a tile along an axis, cut to it, if one is asked for; otherwise 1
abbrev pub cut_length : ℕ → Option ℕ → ℕ
cut_length axis None = 1
cut_length axis (Some asked) = min asked axis

-- the smaller of two numbers
abbrev pub smaller_of : Option ℕ → Option ℕ → Option ℕ
smaller_of None next = next
smaller_of (Some a) None = Some a
smaller_of (Some a) (Some b) = Some (min a b)
