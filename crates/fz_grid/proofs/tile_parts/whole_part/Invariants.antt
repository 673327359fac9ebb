use Rattle.std.proofs.Common.{◌≡◌, ℕ, ◌-◌, ◌<◌, get_or, length, replicate}
use Rattle.fz_grid.proofs.tile_parts.whole_part.Given as goal

abbrev pub invariant-loop-i : goal.invariant-loop-i
invariant-loop-i l =
    (l.inside.n ≡ l.region.n)
    × (l.inside.lo ≡ replicate 9 0)
    × (l.inside.step ≡ replicate 9 1)
    × (length l.inside.hi ≡ 9)
    × ((k : ℕ) → k < l.i → get_or l.inside.hi k 0 ≡ get_or l.region.len k 0 - 1)
