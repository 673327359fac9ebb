use Rattle.fz_grid.proofs.TilePlaces.{tile_inside}
use Rattle.fz_grid.proofs.WholeLemmas.{joined_tile, joined_whole, same_array, tile_is_at, tile_length}
use Rattle.fz_grid.proofs.law.tiles_law.Goals as goal

pub returns-clause-places : goal.returns-clause-places
returns-clause-places c = tile_is_at

pub returns-clause-inside : goal.returns-clause-inside
returns-clause-inside c = tile_inside

pub returns-clause-pixels : goal.returns-clause-pixels
returns-clause-pixels c = tile_length

pub returns-clause-same : goal.returns-clause-same
returns-clause-same c = same_array

pub returns-clause-whole : goal.returns-clause-whole
returns-clause-whole c = joined_whole

pub returns-clause-joined : goal.returns-clause-joined
returns-clause-joined c = joined_tile
