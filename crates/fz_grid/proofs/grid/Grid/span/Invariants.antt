use Rattle.std.proofs.Common.{◌≡◌, ◌++◌, length, take, drop}
use Rattle.fz_grid.specs.Region.{lengths_of, region_corner, region_lengths}
use Rattle.fz_grid.specs.Span.{first_tiles, touched_counts}
use Rattle.fz_grid.proofs.grid.Grid.span.Given as goal

abbrev pub invariant-loop-i : goal.invariant-loop-i
invariant-loop-i l =
    (l.span.n ≡ l.self.shape.n)
    × (take l.i l.span.lo ++ first_tiles (drop l.i (region_corner l.region)) (drop l.i (lengths_of l.self.tile)) ≡ first_tiles (region_corner l.region) (lengths_of l.self.tile))
    × (take l.i l.span.len ++ touched_counts (drop l.i (region_corner l.region)) (drop l.i (region_lengths l.region)) (drop l.i (lengths_of l.self.tile)) ≡ touched_counts (region_corner l.region) (region_lengths l.region) (lengths_of l.self.tile))
    × (length l.span.lo ≡ 9)
    × (length l.span.len ≡ 9)
