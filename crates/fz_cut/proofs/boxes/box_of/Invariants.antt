use Rattle.std.proofs.Common.{◌≡◌, ℕ, ◌+◌, ◌-◌, ◌<◌, get_or, length}
use Rattle.fz_grid.specs.Region.{IsZeroFrom}
use Rattle.fz_cut.proofs.boxes.box_of.Given as goal

abbrev pub invariant-loop-i : goal.invariant-loop-i
invariant-loop-i l =
    (length l.len ≡ 9)
    × ((k : ℕ) → k < l.i → get_or l.len k 0 ≡ get_or l.sieve.hi k 0 - get_or l.sieve.lo k 0 + 1)
    × IsZeroFrom l.i l.len
