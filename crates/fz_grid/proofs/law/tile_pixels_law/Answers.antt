use Rattle.fz_grid.proofs.TileSums.{tile_most, tile_some, tile_whole, tiles_sum}
use Rattle.fz_grid.proofs.law.tile_pixels_law.Goals as goal

pub returns-clause-some : goal.returns-clause-some
returns-clause-some c = tile_some

pub returns-clause-most : goal.returns-clause-most
returns-clause-most c = tile_most

pub returns-clause-all : goal.returns-clause-all
returns-clause-all c = tiles_sum

pub returns-clause-whole : goal.returns-clause-whole
returns-clause-whole c = tile_whole
