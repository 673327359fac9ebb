use Rattle.std.proofs.Common.{◌<◌, get_or, arith}
use Rattle.fz_grid.proofs.PickAxes.{visited_inside}
use Rattle.fz_grid.proofs.Sifted.{gridded_at, sifted_at}
use Rattle.fz_grid.proofs.sieving.SieveTiles.place.Goals as goal

pub tile_along-requires-clause-inside : goal.tile_along-requires-clause-inside
tile_along-requires-clause-inside c =
    let tiles = c.args.self.now in
    let i = c.loop-i.i in
    let inside : i < tiles.shape.n = omega arith in
    let below = c.requires i (omega (arith, tiles.visits.counts_axes)) in
    let there = visited_inside _ _ _ _ _ (get_or c.args.numbers.now i 0) (sifted_at tiles.shape tiles.tile tiles.sieve i tiles.visits.divided tiles.visits.within inside) (omega (arith, below, tiles.visits.counted i inside)) in
    let grid = gridded_at tiles.shape tiles.tile tiles.grid i tiles.visits.divided tiles.visits.grid_axes tiles.visits.gridded inside in
    omega (arith, there, grid)

pub returns-clause-inside : goal.returns-clause-inside
returns-clause-inside c =
    let tiles = c.args.self.now in
    λ i h.
    let inside : i < tiles.shape.n = omega (arith, tiles.visits.grid_axes) in
    let below = c.requires i (omega (arith, tiles.visits.counts_axes)) in
    let there = visited_inside _ _ _ _ _ (get_or c.args.numbers.now i 0) (sifted_at tiles.shape tiles.tile tiles.sieve i tiles.visits.divided tiles.visits.within inside) (omega (arith, below, tiles.visits.counted i inside)) in
    let grid = gridded_at tiles.shape tiles.tile tiles.grid i tiles.visits.divided tiles.visits.grid_axes tiles.visits.gridded inside in
    omega (arith, there, grid, c.loop-i.invariant.0 i (omega arith))
