use Rattle.std.proofs.Common.{◌≡◌, ℕ, ◌<◌, get_or, length}
use Rattle.fz_grid.specs.Region.{IsZeroFrom}
use Rattle.fz_grid.specs.Sieve.{pick_count}
use Rattle.fz_grid.proofs.sieve.Sieve.lengths.Given as goal

abbrev pub invariant-loop-i : goal.invariant-loop-i
invariant-loop-i l =
    (l.lengths.n ≡ l.self.n)
    × ((k : ℕ) → k < l.i → get_or l.lengths.len k 0 ≡ pick_count (get_or l.self.lo k 0) (get_or l.self.hi k 0) (get_or l.self.step k 0))
    × IsZeroFrom l.i l.lengths.len
    × (length l.lengths.len ≡ 9)
