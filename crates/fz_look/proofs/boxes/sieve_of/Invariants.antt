-- The last coordinates so far; all else is there.
use Rattle.std.proofs.Common.{◌≡◌, ◌-◌, ◌++◌, take, replicate}
use Rattle.fz_grid.specs.Region.{region_corner, region_lengths}
use Rattle.fz_look.specs.Boxes.{last_of}
use Rattle.fz_look.proofs.boxes.sieve_of.Given as goal

abbrev pub invariant-loop-i : goal.invariant-loop-i
invariant-loop-i l = record {
  same_axes : l.sieve.n ≡ l.region.n;
  lo : l.sieve.lo ≡ l.region.lo;
  hi : l.sieve.hi ≡ take l.i (last_of (region_corner l.region) (region_lengths l.region)) ++ replicate (9 - l.i) 0;
  steps : l.sieve.step ≡ replicate 9 1;
}
