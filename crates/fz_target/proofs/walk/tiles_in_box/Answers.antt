-- The tiles of a grid with the lengths of the image.
use Rattle.fz_target.proofs.TilesLeft.{boxes_of_grid, tiles_of_grid}
use Rattle.fz_grid.specs.SieveWalks.{sieve_tiles_left}
use Rattle.fz_target.proofs.walk.tiles_in_box.Goals as goal

pub returns-clause-tiles : goal.returns-clause-tiles
returns-clause-tiles c =
    tiles_of_grid c.args.target.now c.grid-grid.result.shape c.grid-grid.result.tile (sieve_tiles_left c.sieve_tiles.result) c.grid-grid.ensures.0 c.grid-grid.ensures.1 c.sieve_tiles.ensures.tiles

pub returns-clause-each : goal.returns-clause-each
returns-clause-each c =
    boxes_of_grid c.args.target.now c.grid-grid.result.shape c.grid-grid.result.tile (sieve_tiles_left c.sieve_tiles.result) c.grid-grid.ensures.0 c.grid-grid.ensures.1 c.sieve_tiles.ensures.picked c.sieve_tiles.ensures.inside
