use Rattle.std.proofs.Common.{arith}
use Rattle.fz_grid.specs.Arrays.{product}
use Rattle.fz_grid.specs.Region.{lengths_of, region_lengths}
use Rattle.std.proofs.Common.{◌≡◌, ap}
use Rattle.fz_grid.proofs.Lists.{positive_front, product_pos}
use Rattle.fz_grid.proofs.region.Region.pixels.Goals as goal

pub returns-clause-some : goal.returns-clause-some
returns-clause-some c =
    let region = c.args.self.now in
    let some = product_pos (region_lengths region) (positive_front region.len region.n c.requires.positive) in
    let same : product (lengths_of c.axes.result) ≡ product (region_lengths region) = ap (λ a. product (lengths_of a)) c.axes.ensures in
    omega (arith, c.volume.ensures, same, some)
