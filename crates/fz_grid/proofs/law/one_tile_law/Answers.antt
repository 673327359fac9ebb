use Rattle.fz_grid.proofs.WholeLemmas.{in_one_tile, placed_once}
use Rattle.fz_grid.proofs.law.one_tile_law.Goals as goal

pub returns-clause-coordinates : goal.returns-clause-coordinates
returns-clause-coordinates c = in_one_tile

pub returns-clause-numbers : goal.returns-clause-numbers
returns-clause-numbers c = placed_once
