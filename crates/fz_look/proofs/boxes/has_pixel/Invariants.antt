-- The region has the coordinates so far.
use Rattle.std.proofs.Common.{ℕ, ◌+◌, ◌<◌, ◌≤◌, get_or}
use Rattle.fz_look.proofs.boxes.has_pixel.Given as goal

abbrev pub invariant-loop-i : goal.invariant-loop-i
invariant-loop-i l = (k : ℕ) → k < l.i → (get_or l.region.lo k 0 ≤ get_or l.at k 0) × (get_or l.at k 0 < get_or l.region.lo k 0 + get_or l.region.len k 0)
