use Rattle.std.proofs.Common.{◌≡◌, ℕ, ◌<◌, get_or, length}
use Rattle.fz_grid.specs.Visits.{visited_count}
use Rattle.fz_grid.proofs.grid.Grid.visits.Given as goal

abbrev pub invariant-loop-i : goal.invariant-loop-i
invariant-loop-i l =
    (l.counts.n ≡ l.self.shape.n)
    × ((k : ℕ) → k < l.i → get_or l.counts.len k 0 ≡ visited_count (get_or l.sieve.lo k 0) (get_or l.sieve.hi k 0) (get_or l.sieve.step k 0) (get_or l.self.tile.len k 0))
    × (length l.counts.len ≡ 9)
