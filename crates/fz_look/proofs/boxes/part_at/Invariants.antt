-- The part of a tile so far has as many pixels as fit, and one place along each axis that is left.
use Rattle.std.proofs.Common.{◌≡◌, ℕ, ◌*◌, ◌<◌, ◌≤◌, get_or, length, take}
use Rattle.fz_grid.specs.Arrays.{product}
use Rattle.fz_look.proofs.BoxParts.{AreAlong}
use Rattle.fz_look.proofs.boxes.part_at.Given as goal

abbrev pub invariant-loop-i : goal.invariant-loop-i
invariant-loop-i l = record {
  same_axes : l.region.n ≡ l.shape.n;
  lo_is : l.region.lo ≡ l.at;
  len_long : length l.region.len ≡ 9;
  along : AreAlong l.region.lo l.region.len l.at l.shape.len l.shape.n;
  ones : (k : ℕ) → l.i ≤ k → k < l.shape.n → get_or l.region.len k 0 ≡ 1;
  room : 1 ≤ l.room;
  fits : product (take l.shape.n l.region.len) * l.room ≤ l.most;
}
