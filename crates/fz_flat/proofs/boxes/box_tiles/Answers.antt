-- They are no more than all tiles.
use Rattle.std.proofs.Common.{◌≡◌, List, ℕ, length, ap, arith}
use Rattle.fz_grid.specs.SieveWalks.{sieve_tiles_left}
use Rattle.fz_flat.specs.Boxes.{picked_in}
use Rattle.fz_flat.proofs.BoxLemmas.{few_picked, grid_tiles}
use Rattle.fz_flat.proofs.boxes.box_tiles.Goals as goal

pub returns-clause-few : goal.returns-clause-few
returns-clause-few c =
    let p = c.args.plan.now in
    let sieve = c.args.sieve.now in
    let is : sieve_tiles_left c.sieve_tiles.result ≡ picked_in p sieve =
    grid_tiles p sieve c.new-grid.result.shape c.new-grid.result.tile (sieve_tiles_left c.sieve_tiles.result) c.new-grid.ensures.shape c.new-grid.ensures.tile c.sieve_tiles.ensures.tiles in
    let many : length (sieve_tiles_left c.sieve_tiles.result) ≡ length (picked_in p sieve) = ap (λ (l : List ℕ). length l) is in
    let most = few_picked p sieve in
    omega (arith, many, most, c.requires.divided.tiles)
