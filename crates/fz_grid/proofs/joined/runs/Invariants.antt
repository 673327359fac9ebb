use Rattle.std.proofs.Common.{◌≡◌}
use Rattle.fz_grid.proofs.Ones.{ones}
use Rattle.fz_grid.proofs.joined.runs.Given as goal

abbrev pub invariant-loop-i : goal.invariant-loop-i
invariant-loop-i l = (l.first.n ≡ l.region.n) × (l.first.lo ≡ l.region.lo) × (l.first.len ≡ ones l.i l.region.len)
