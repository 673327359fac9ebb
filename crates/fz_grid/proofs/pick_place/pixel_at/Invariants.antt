use Rattle.std.proofs.Common.{◌≡◌, ℕ, ◌+◌, ◌<◌, get_or, length}
use Rattle.fz_grid.proofs.pick_place.pixel_at.Given as goal

abbrev pub invariant-loop-i : goal.invariant-loop-i
invariant-loop-i l =
    ((k : ℕ) → k < l.i → get_or l.at k 0 ≡ get_or l.region.lo k 0 + get_or l.numbers k 0)
    × (length l.at ≡ 9)
