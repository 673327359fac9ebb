-- The codes of the operations (FITS 4.0, section 10.4.3).
use Rattle.std.specs.Prelude.{ℕ}
use Rattle.fz_plio.specs.declared.operation.Operation.{Operation}
use Rattle.fz_plio.specs.declared.operation.Operation.TheVariants.{Zeros, SetHigh, Raise, Lower, Highs, ZerosThenHigh, RaiseThenHigh, LowerThenHigh}

-- the code of an operation, the high 4 bits of its word
abbrev pub code_of : Operation → ℕ
code_of Zeros = 0
code_of SetHigh = 1
code_of Raise = 2
code_of Lower = 3
code_of Highs = 4
code_of ZerosThenHigh = 5
code_of RaiseThenHigh = 6
code_of LowerThenHigh = 7
