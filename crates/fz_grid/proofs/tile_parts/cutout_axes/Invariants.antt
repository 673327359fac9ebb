use Rattle.std.proofs.Common.{◌≡◌, ℕ, ◌<◌, ◌≤◌, get_or, length}
use Rattle.fz_grid.specs.Sieve.{pick_count}
use Rattle.fz_grid.proofs.tile_parts.cutout_axes.Given as goal

abbrev pub invariant-loop-i : goal.invariant-loop-i
invariant-loop-i l =
    (l.cutout.n ≡ l.shape.n)
    × (length l.cutout.len ≡ 9)
    × ((k : ℕ) → k < l.i → get_or l.cutout.len k 0 ≡ pick_count (get_or l.sieve.lo k 0) (get_or l.sieve.hi k 0) (get_or l.sieve.step k 0))
    × ((k : ℕ) → k < l.i → get_or l.cutout.len k 0 ≤ get_or l.shape.len k 0)
    × ((k : ℕ) → l.i ≤ k → get_or l.cutout.len k 0 ≡ 0)
