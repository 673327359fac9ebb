use Rattle.std.proofs.Common.{◌≡◌, ◌++◌, length, take, drop}
use Rattle.fz_grid.specs.Grid.{tile_counts}
use Rattle.fz_grid.specs.Region.{IsZeroFrom, lengths_of}
use Rattle.fz_grid.proofs.grid.tile_counts.Given as goal

abbrev pub invariant-loop-i : goal.invariant-loop-i
invariant-loop-i l =
    (l.counts.n ≡ l.shape.n)
    × (take l.i l.counts.len ++ tile_counts (drop l.i (lengths_of l.shape)) (drop l.i (lengths_of l.tile)) ≡ tile_counts (lengths_of l.shape) (lengths_of l.tile))
    × (length l.counts.len ≡ 9)
    × IsZeroFrom l.i l.counts.len
