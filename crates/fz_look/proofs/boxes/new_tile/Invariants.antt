-- Along each axis the tile has a place and is no longer than the axis.
use Rattle.std.proofs.Common.{◌≡◌, ℕ, ◌<◌, ◌≤◌, get_or, length}
use Rattle.fz_look.proofs.boxes.new_tile.Given as goal

abbrev pub invariant-loop-i : goal.invariant-loop-i
invariant-loop-i l = record {
  same_axes : l.tile.n ≡ l.shape.n;
  long : length l.tile.len ≡ 9;
  sizes : (k : ℕ) → k < l.shape.n → (1 ≤ get_or l.tile.len k 0) × (get_or l.tile.len k 0 ≤ get_or l.shape.len k 0);
}
