use Rattle.std.proofs.Common.{◌≡◌, ◌++◌, length, take, drop}
use Rattle.fz_grid.specs.Grid.{tile_corner, tile_lengths}
use Rattle.fz_grid.specs.Region.{IsZeroFrom, lengths_of}
use Rattle.fz_grid.proofs.grid.Grid.tile_box.Given as goal

abbrev pub invariant-loop-i : goal.invariant-loop-i
invariant-loop-i l =
    (l.region.n ≡ l.self.shape.n)
    × (take l.i l.region.lo ++ tile_corner (drop l.i (lengths_of l.self.shape)) (drop l.i (lengths_of l.self.tile)) l.digits ≡ tile_corner (lengths_of l.self.shape) (lengths_of l.self.tile) l.t)
    × (take l.i l.region.len ++ tile_lengths (drop l.i (lengths_of l.self.shape)) (drop l.i (lengths_of l.self.tile)) l.digits ≡ tile_lengths (lengths_of l.self.shape) (lengths_of l.self.tile) l.t)
    × IsZeroFrom l.i l.region.lo
    × IsZeroFrom l.i l.region.len
    × (length l.region.lo ≡ 9)
    × (length l.region.len ≡ 9)
