-- The tile that has the pixel, along the axes so far; and then as many whole ones as fit.
use Rattle.std.proofs.Common.{◌≡◌, ℕ, ◌<◌, ◌≤◌, get_or, length, take}
use Rattle.fz_grid.specs.Arrays.{product}
use Rattle.fz_look.proofs.BoxParts.{AreAlong}
use Rattle.fz_look.proofs.boxes.tiles_at.Given as goal

abbrev pub invariant-loop-i : goal.invariant-loop-i
invariant-loop-i l = record {
  same_axes : l.region.n ≡ l.tile.n;
  lo_long : length l.region.lo ≡ 9;
  len_long : length l.region.len ≡ 9;
  along : AreAlong l.region.lo l.region.len l.at l.plan.shape.len l.i;
  short : (k : ℕ) → k < l.i → get_or l.region.len k 0 ≤ get_or l.tile.len k 0;
}

abbrev pub invariant-loop-i-2 : goal.invariant-loop-i-2
invariant-loop-i-2 l = record {
  same_axes : l.region.n ≡ l.tile.n;
  lo_long : length l.region.lo ≡ 9;
  len_long : length l.region.len ≡ 9;
  along : AreAlong l.region.lo l.region.len l.at l.plan.shape.len l.tile.n;
  short : (k : ℕ) → l.i ≤ k → k < l.tile.n → get_or l.region.len k 0 ≤ get_or l.tile.len k 0;
  fits : product (take l.tile.n l.region.len) ≤ l.most;
}
