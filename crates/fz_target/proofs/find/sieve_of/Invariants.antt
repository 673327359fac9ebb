-- The last coordinates and the steps so far, and zeros.
use Rattle.std.proofs.Common.{◌≡◌, ℕ, ◌+◌, ◌-◌, ◌<◌, get_or, length}
use Rattle.fz_grid.specs.Region.{IsZeroFrom}
use Rattle.fz_target.proofs.find.sieve_of.Given as goal

abbrev pub invariant-loop-i : goal.invariant-loop-i
invariant-loop-i l = record {
  his : length l.hi ≡ 9;
  steps : length l.step ≡ 9;
  last : (k : ℕ) → k < l.i → get_or l.hi k 0 ≡ get_or l.region.lo k 0 + (get_or l.region.len k 0 - 1);
  one : (k : ℕ) → k < l.i → get_or l.step k 0 ≡ 1;
  no_last : IsZeroFrom l.i l.hi;
  no_step : IsZeroFrom l.i l.step;
}
