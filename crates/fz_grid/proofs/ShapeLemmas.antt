-- Tables of axes that a call takes.
use Rattle.std.proofs.Common.{◌≡◌, ◌<◌, ◌≤◌, length, arith, length-take}
use Rattle.std.proofs.lemmas.List.{get_or-take}
use Rattle.fz_block.specs.declared.axes.Axes.{Axes}
use Rattle.fz_grid.specs.declared.region.Region.{Region}
use Rattle.fz_grid.specs.Arrays.{product}
use Rattle.fz_grid.specs.Region.{IsDivided, IsShape, IsWithin, axes_of, lengths_of, region_lengths}
use Rattle.fz_grid.proofs.Lists.{long_enough}
use Rattle.fz_grid.proofs.Tilings.{product_mono}

pub divided_shapes : (shape tile : Axes) → IsDivided shape tile → IsShape shape × IsShape tile
divided_shapes shape tile divided = (
  record {
    some = divided.some;
    axes = divided.axes;
    positive = λ i h. omega (arith, divided.positive i h, divided.inside i h);
    pixels = divided.pixels;
  },
  record {
    some = omega (arith, divided.some, divided.same_axes);
    axes = omega (arith, divided.axes, divided.same_axes);
    positive = λ i h. divided.positive i (omega (arith, divided.same_axes));
    pixels = omega (arith, divided.tile_pixels);
  },
)

-- a region has no more pixels than its array
pub region_le : (shape : Axes) (region : Region) → IsShape shape → IsWithin shape region → product (region_lengths region) ≤ product (lengths_of shape)
region_le shape region is within =
    let shape_long = long_enough shape.len shape.n is.positive in
    let region_long = long_enough region.len region.n (λ i h. within.positive i (omega (arith, within.same_axes))) in
    let same : length (region_lengths region) ≡ length (lengths_of shape) =
    omega (arith, length-take shape.n shape.len, length-take region.n region.len, within.same_axes) in
    product_mono (region_lengths region) (lengths_of shape) same (λ i h.
    let in_region : i < region.n = omega (arith, length-take region.n region.len) in
    let in_shape : i < shape.n = omega (arith, within.same_axes) in
    omega (arith, get_or-take region.n region.len i 0 in_region, get_or-take shape.n shape.len i 0 in_shape, within.inside i in_shape))

pub region_shape : (shape : Axes) (region : Region) → IsShape shape → IsWithin shape region → IsShape (axes_of region)
region_shape shape region is within =
    record {
      some = omega (arith, is.some, within.same_axes);
      axes = omega (arith, is.axes, within.same_axes);
      positive = λ i h. within.positive i (omega (arith, within.same_axes));
      pixels = omega (arith, region_le shape region is within, is.pixels);
    }
