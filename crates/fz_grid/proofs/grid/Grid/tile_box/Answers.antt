use Rattle.std.proofs.Common.{◌≡◌, ◌+◌, ◌/◌, ◌++◌, [], ◌∷◌, take, drop, get_or, ap, sym, ◌∙◌, refl, arith, length-set}
use Rattle.fz_grid.specs.Arrays.{product}
use Rattle.fz_grid.specs.Grid.{tile_corner, tile_lengths}
use Rattle.fz_grid.specs.Region.{lengths_of, region_corner, region_lengths}
use Rattle.fz_grid.proofs.BoxLemmas.{box_along, within_of}
use Rattle.fz_grid.proofs.Lists.{rest_none}
use Rattle.fz_grid.proofs.ShapeLemmas.{divided_shapes, region_shape}
use Rattle.fz_grid.proofs.Tilings.{cut_of, first_largest, shape_long, tile_is_box, tiling_of}
use Rattle.fz_grid.proofs.Filling.{filled_all, filled_more, zero_more}
use Rattle.fz_grid.proofs.GridLemmas.{corner_more, digit_inside, lengths_more}
use Rattle.fz_grid.proofs.grid.Grid.tile_box.Goals as goal

pub overflow_mul-lo : goal.overflow_mul-lo
overflow_mul-lo c =
    let grid = c.args.self.now in
    let i = c.loop-i.i in
    let inside = digit_inside (get_or grid.shape.len i 0) (get_or grid.tile.len i 0) c.loop-i.digits c.tiles_along-count.result (grid.divided.positive i (omega arith)) (omega (arith, grid.divided.positive i (omega arith), grid.divided.inside i (omega arith))) c.tiles_along-count.ensures in
    omega (arith, inside)

pub overflow_sub-self : goal.overflow_sub-self
overflow_sub-self c =
    let grid = c.args.self.now in
    let i = c.loop-i.i in
    let inside = digit_inside (get_or grid.shape.len i 0) (get_or grid.tile.len i 0) c.loop-i.digits c.tiles_along-count.result (grid.divided.positive i (omega arith)) (omega (arith, grid.divided.positive i (omega arith), grid.divided.inside i (omega arith))) c.tiles_along-count.ensures in
    omega (arith, inside)

pub loop-i-preserved : goal.loop-i-preserved
loop-i-preserved c =
    let grid = c.args.self.now in
    let i = c.loop-i.i in
    let d = c.loop-i.digits in
    let g = c.tiles_along-count.result in
    let corner_rest = tile_corner (drop (i + 1) (lengths_of grid.shape)) (drop (i + 1) (lengths_of grid.tile)) (d / g) in
    let lengths_rest = tile_lengths (drop (i + 1) (lengths_of grid.shape)) (drop (i + 1) (lengths_of grid.tile)) (d / g) in
    let corner_step = corner_more grid.shape.len grid.tile.len grid.shape.n grid.tile.n i (i + 1) d g (omega arith) (omega arith) (omega (arith, grid.divided.same_axes)) (omega (arith, grid.divided.same_axes)) refl c.tiles_along-count.ensures in
    let lengths_step = lengths_more grid.shape.len grid.tile.len grid.shape.n grid.tile.n i (i + 1) d g (omega arith) (omega arith) (omega (arith, grid.divided.same_axes)) (omega (arith, grid.divided.same_axes)) refl c.tiles_along-count.ensures in
    let corner_so_far = ap (λ l. take i c.loop-i.region.lo ++ l) (sym corner_step) ∙ c.loop-i.invariant.1 in
    let lengths_so_far = ap (λ v. take i c.loop-i.region.len ++ (v ∷ lengths_rest)) c.min.ensures ∙ (ap (λ l. take i c.loop-i.region.len ++ l) (sym lengths_step) ∙ c.loop-i.invariant.2) in (
      c.loop-i.invariant.0,
      filled_more c.loop-i.region.lo i (i + 1) _ corner_rest _ (omega arith) refl corner_so_far,
      filled_more c.loop-i.region.len i (i + 1) _ lengths_rest _ (omega arith) refl lengths_so_far,
      zero_more _ i _ c.loop-i.invariant.3,
      zero_more _ i _ c.loop-i.invariant.4,
      length-set c.loop-i.region.lo i _ ∙ c.loop-i.invariant.5,
      length-set c.loop-i.region.len i _ ∙ c.loop-i.invariant.6,
    )

-- the table of lengths is that of the tile
is_tile : (c : goal.After-loop-i) → region_lengths c.loop-i.region ≡ tile_lengths (lengths_of c.args.self.now.shape) (lengths_of c.args.self.now.tile) c.args.t
is_tile c =
    let grid = c.args.self.now in
    let region = c.loop-i.region in
    let array = lengths_of grid.shape in
    let tile = lengths_of grid.tile in
    let at_end : c.loop-i.i ≡ grid.shape.n = omega arith in
    let none : drop c.loop-i.i array ≡ [] = ap (λ i. drop i array) at_end ∙ rest_none grid.shape.len grid.shape.n in
    let same : region.n ≡ c.loop-i.i = omega arith in
    ap (λ n. take n region.len) same ∙ filled_all region.len _ c.loop-i.i _ (ap (λ l. tile_lengths l (drop c.loop-i.i tile) c.loop-i.digits) none) c.loop-i.invariant.2

pub returns-clause-no_larger : goal.returns-clause-no_larger
returns-clause-no_larger c =
    let grid = c.args.self.now in
    let largest = first_largest (lengths_of grid.shape) (lengths_of grid.tile) c.args.t (tiling_of grid.shape grid.tile grid.divided) in
    omega (arith, ap product (is_tile c), largest)

pub returns-clause-within : goal.returns-clause-within
returns-clause-within c =
    let grid = c.args.self.now in
    let region = c.loop-i.region in
    let array = lengths_of grid.shape in
    let tile = lengths_of grid.tile in
    let at_end : c.loop-i.i ≡ grid.shape.n = omega arith in
    let none : drop c.loop-i.i array ≡ [] = ap (λ i. drop i array) at_end ∙ rest_none grid.shape.len grid.shape.n in
    let same : region.n ≡ c.loop-i.i = omega arith in
    let corner_is : region_corner region ≡ tile_corner array tile c.args.t =
    ap (λ n. take n region.lo) same ∙ filled_all region.lo _ c.loop-i.i _ (ap (λ l. tile_corner l (drop c.loop-i.i tile) c.loop-i.digits) none) c.loop-i.invariant.1 in
    let box = tile_is_box array tile c.args.t (cut_of array tile (tiling_of grid.shape grid.tile grid.divided)) in
    within_of grid.shape region (shape_long grid.shape grid.tile grid.divided) c.loop-i.invariant.0 (box_along array _ _ _ _ corner_is (is_tile c) box)

pub returns-clause-shape : goal.returns-clause-shape
returns-clause-shape c =
    let grid = c.args.self.now in
    region_shape grid.shape c.loop-i.region (divided_shapes grid.shape grid.tile grid.divided).0 (returns-clause-within c)
