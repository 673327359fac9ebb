use Rattle.std.proofs.Common.{◌≡◌, ◌-◌, ◌++◌, length, take, drop, replicate}
use Rattle.fz_grid.specs.Region.{lengths_of}
use Rattle.fz_head.specs.Planned.{asked_tile, cut_tile}
use Rattle.fz_head.proofs.tiles.cut_tile.Given as goal

abbrev pub invariant-loop-i : goal.invariant-loop-i
invariant-loop-i l = record {
  axes : l.tile.n ≡ l.axes.n;
  so_far : take l.i l.tile.len ++ cut_tile (drop l.i (lengths_of l.axes)) (drop l.i (asked_tile l.asked (lengths_of l.axes))) ≡ cut_tile (lengths_of l.axes) (asked_tile l.asked (lengths_of l.axes));
  behind : drop l.i l.tile.len ≡ replicate (9 - l.i) 0;
  nine : length l.tile.len ≡ 9;
}
