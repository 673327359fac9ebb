use Rattle.std.proofs.Common.{arith}
use Rattle.fz_grid.specs.Region.{lengths_of}
use Rattle.fz_grid.proofs.Lists.{positive_front, product_pos}
use Rattle.fz_grid.proofs.grid.Grid.tile_count.Goals as goal

pub returns-clause-some : goal.returns-clause-some
returns-clause-some c =
    let counts = c.counts.result in
    let some = product_pos (lengths_of counts) (positive_front counts.len counts.n c.counts.ensures.positive) in
    omega (arith, c.volume.ensures, some)
