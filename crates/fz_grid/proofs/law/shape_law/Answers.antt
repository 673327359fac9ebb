use Rattle.fz_grid.proofs.ShapeLemmas.{divided_shapes, region_shape}
use Rattle.fz_grid.proofs.TileSums.{divided_tiles}
use Rattle.fz_grid.proofs.law.shape_law.Goals as goal

pub returns-clause-divided : goal.returns-clause-divided
returns-clause-divided c = divided_shapes

pub returns-clause-region : goal.returns-clause-region
returns-clause-region c = region_shape

pub returns-clause-tiles : goal.returns-clause-tiles
returns-clause-tiles c = divided_tiles
