use Rattle.std.proofs.Common.{arith}
use Rattle.fz_grid.specs.Region.{lengths_of}
use Rattle.fz_grid.proofs.Lists.{positive_from}
use Rattle.fz_grid.proofs.Tilings.{counts_positive, cut_of, tiling_of}
use Rattle.fz_grid.proofs.grid.Grid.counts.Goals as goal

pub returns-clause-positive : goal.returns-clause-positive
returns-clause-positive c =
    let grid = c.args.self.now in
    let counts = c.tile_counts.result in
    λ i h.
    positive_from counts.len _ counts.n (omega arith) c.tile_counts.ensures.counts (counts_positive (lengths_of grid.shape) (lengths_of grid.tile) (cut_of _ _ (tiling_of grid.shape grid.tile grid.divided))) i h
