-- Buffers that are lent out to be written: they keep their lengths.
use Rattle.std.specs.Prelude.{ℕ, ℤ, List, length, take, drop, ◌++◌}
use Rattle.std.specs.Borrow.{Lends, MutBor, Fml, Array, u8, i32}
use Rattle.fz_base.specs.contracts.buffer.Bytes.{the_row as bytes_row}
use Rattle.fz_base.specs.contracts.buffer.Numbers.{the_row as numbers_row}

-- a buffer of its old length with what was left in the slice that was lent
abbrev pub refilled : {A : Type 0} → List A → List A → List A
refilled old lent = take (length old) (lent ++ drop (length lent) old)

-- the bytes end as what was left in the slice
abbrev pub LendsBytes : MutBor (List ℕ) → MutBor (List ℕ) → Fml
LendsBytes buffer slice = Lends bytes_row (Array u8 0) buffer slice (refilled buffer.now)

-- the numbers end as what was left in the slice
abbrev pub LendsNumbers : MutBor (List ℤ) → MutBor (List ℤ) → Fml
LendsNumbers buffer slice = Lends numbers_row (Array i32 0) buffer slice (refilled buffer.now)
