use Rattle.std.proofs.Common.{ℕ, ◌<◌, ◌≤◌, get_or}
use Rattle.fz_cases_rows.proofs.grid.divides.Given as goal

abbrev pub invariant-loop-i : goal.invariant-loop-i
invariant-loop-i l = (k : ℕ) → k < l.i → (1 ≤ get_or l.tile.len k 0) × (get_or l.tile.len k 0 ≤ get_or l.shape.len k 0)
