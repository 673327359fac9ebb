use Rattle.std.proofs.Common.{◌≡◌, ℕ, ◌<◌, get_or, length}
use Rattle.fz_grid.specs.Visits.{visited}
use Rattle.fz_grid.proofs.sieving.SieveTiles.place.Given as goal

abbrev pub invariant-loop-i : goal.invariant-loop-i
invariant-loop-i l =
    ((k : ℕ) → k < l.i → get_or l.at k 0 ≡ visited (get_or l.self.sieve.lo k 0) (get_or l.self.sieve.step k 0) (get_or l.self.tile.len k 0) (get_or l.numbers k 0))
    × (length l.at ≡ 9)
