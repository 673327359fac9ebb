use Rattle.std.proofs.Common.{◌≡◌, ℕ, ◌<◌, get_or, length}
use Rattle.fz_grid.specs.Region.{AreSameFrom, IsZeroFrom}
use Rattle.fz_grid.proofs.PartAxes.{IsPartBy}
use Rattle.fz_grid.proofs.sieve.Sieve.part.Given as goal

abbrev pub invariant-loop-i : goal.invariant-loop-i
invariant-loop-i l =
    (l.at.n ≡ l.self.n)
    × (l.inside.n ≡ l.self.n)
    × (l.inside.step ≡ l.self.step)
    × (length l.at.lo ≡ 9)
    × (length l.at.len ≡ 9)
    × (length l.inside.lo ≡ 9)
    × (length l.inside.hi ≡ 9)
    × ((k : ℕ) → k < l.i → IsPartBy (get_or l.self.lo k 0) (get_or l.self.hi k 0) (get_or l.self.step k 0) (get_or l.region.lo k 0) (get_or l.region.len k 0) (get_or l.at.lo k 0) (get_or l.at.len k 0) (get_or l.inside.lo k 0) (get_or l.inside.hi k 0))
    × IsZeroFrom l.i l.at.lo
    × IsZeroFrom l.i l.at.len
    × AreSameFrom l.i l.inside.lo l.self.lo
    × AreSameFrom l.i l.inside.hi l.self.hi
