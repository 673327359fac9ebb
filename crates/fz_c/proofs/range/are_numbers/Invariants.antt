-- Whether the numbers so far are in range.
use Rattle.std.proofs.Common.{ℕ, ℤ, ◌↔◌, ◌<◌, get_or}
use Rattle.std.specs.Prelude.{IsTrue}
use Rattle.fz_bits.specs.Numbers.{IsNumber}
use Rattle.fz_c.proofs.range.are_numbers.Given as goal

abbrev pub invariant-loop-number : goal.invariant-loop-number
invariant-loop-number g l = IsTrue l.fine ↔ ((k : ℕ) (d : ℤ) → k < l.number-index → IsNumber g.row.W (get_or l.numbers k d))
