use Rattle.std.proofs.Common.{◌≡◌, ap, sym, ◌∙◌, arith}
use Rattle.fz_grid.specs.Arrays.{product}
use Rattle.fz_grid.specs.Region.{lengths_of}
use Rattle.fz_grid.proofs.Lists.{positive_front, product_pos}
use Rattle.fz_grid.proofs.Tilings.{first_whole, tiling_of}
use Rattle.fz_grid.proofs.grid.Grid.largest.Goals as goal

-- a tile is small enough to be counted
whole : (c : goal.After-volume) → c.volume.result ≡ product (lengths_of c.args.self.now.tile)
whole c = omega (arith, c.volume.ensures, c.args.self.now.divided.tile_pixels)

pub returns-clause-pixels : goal.returns-clause-pixels
returns-clause-pixels c =
    let grid = c.args.self.now in
    whole c ∙ ap product (sym (first_whole (lengths_of grid.shape) (lengths_of grid.tile) (tiling_of grid.shape grid.tile grid.divided)))

pub returns-clause-some : goal.returns-clause-some
returns-clause-some c =
    let grid = c.args.self.now in
    let positive = positive_front grid.tile.len grid.tile.n (λ i h. grid.divided.positive i (omega (arith, grid.divided.same_axes))) in
    omega (arith, whole c, product_pos (lengths_of grid.tile) positive)

pub returns-clause-most : goal.returns-clause-most
returns-clause-most c = omega (arith, whole c, c.args.self.now.divided.tile_pixels)
