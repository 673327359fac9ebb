-- The coordinates so far are counted from the corner.
use Rattle.std.proofs.Common.{◌≡◌, length}
use Rattle.fz_retile.proofs.Corners.{AreCounted}
use Rattle.fz_retile.proofs.pixels.place_in.Given as goal

abbrev pub invariant-loop-i : goal.invariant-loop-i
invariant-loop-i l = record {
  long : length l.inside ≡ 9;
  counted : AreCounted l.region.lo l.at l.i l.inside;
}
