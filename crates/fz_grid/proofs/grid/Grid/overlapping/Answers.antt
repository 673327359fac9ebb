use Rattle.std.proofs.Common.{◌≡◌, ◌<◌, ◌^◌, List, ℕ, ap, subst, sym, ◌∙◌, arith}
use Rattle.std.specs.List.{AllByRecursion}
use Rattle.fz_grid.specs.Arrays.{product}
use Rattle.fz_grid.specs.Grid.{tile_counts}
use Rattle.fz_grid.specs.Region.{lengths_of, places_of, region_corner, region_lengths}
use Rattle.fz_grid.specs.Span.{first_tiles, touched_counts}
use Rattle.fz_grid.specs.Walks.{tiles_left}
use Rattle.fz_grid.proofs.BoxLemmas.{IsBox, box_along, box_of, within_of}
use Rattle.fz_grid.proofs.Lists.{long_enough}
use Rattle.fz_grid.proofs.RunLemmas.{places_inside}
use Rattle.fz_grid.proofs.SpanLemmas.{touched_is_box}
use Rattle.fz_grid.proofs.Tilings.{cut_of, shape_long, tiling_of}
use Rattle.fz_grid.proofs.Touched.{tiles_are_touched}
use Rattle.fz_grid.proofs.grid.Grid.overlapping.Goals as goal

pub new-requires-clause-region : goal.new-requires-clause-region
new-requires-clause-region c =
    let grid = c.args.self.now in
    let region = c.args.region.now in
    let counts = c.counts.result in
    let cut = cut_of _ _ (tiling_of grid.shape grid.tile grid.divided) in
    let box = touched_is_box (lengths_of grid.shape) (lengths_of grid.tile) (region_corner region) (region_lengths region) cut (box_of grid.shape region (shape_long grid.shape grid.tile grid.divided) (omega arith) (omega arith) grid.divided.axes c.requires) in
    within_of counts c.span.result (long_enough counts.len counts.n c.counts.ensures.positive) (c.span.ensures.axes ∙ sym c.counts.ensures.axes) (subst (λ (l : List ℕ). IsBox l (region_corner c.span.result) (region_lengths c.span.result)) (sym c.counts.ensures.counts) (box_along _ _ _ _ _ c.span.ensures.first c.span.ensures.counts box))

pub new-requires-2 : goal.new-requires-2
new-requires-2 c =
    let few : product (lengths_of c.counts.result) < 2 ^ 31 = rw c.counts.ensures.counts c.args.self.now.divided.tiles in
    rw c.new.ensures.shape few

-- the tiles that are answered
are_those : (c : goal.After-new-2) → tiles_left c.new-2.result ≡ places_of (tile_counts (lengths_of c.args.self.now.shape) (lengths_of c.args.self.now.tile)) (first_tiles (region_corner c.args.region.now) (lengths_of c.args.self.now.tile)) (touched_counts (region_corner c.args.region.now) (region_lengths c.args.region.now) (lengths_of c.args.self.now.tile))
are_those c =
    let grid = c.args.self.now in
    let region = c.args.region.now in
    let array = lengths_of grid.shape in
    let tile = lengths_of grid.tile in
    c.new-2.ensures
    ∙ (c.new.ensures.left
    ∙ (ap (λ l. places_of l (region_corner c.span.result) (region_lengths c.span.result)) c.counts.ensures.counts
    ∙ (ap (λ l. places_of (tile_counts array tile) l (region_lengths c.span.result)) c.span.ensures.first
    ∙ ap (places_of (tile_counts array tile) (first_tiles (region_corner region) tile)) c.span.ensures.counts)))

pub returns-clause-tiles : goal.returns-clause-tiles
returns-clause-tiles c =
    let grid = c.args.self.now in
    let region = c.args.region.now in
    let cut = cut_of _ _ (tiling_of grid.shape grid.tile grid.divided) in
    are_those c ∙ sym (tiles_are_touched (lengths_of grid.shape) (lengths_of grid.tile) (region_corner region) (region_lengths region) cut (box_of grid.shape region (shape_long grid.shape grid.tile grid.divided) (omega arith) (omega arith) grid.divided.axes c.requires))

pub returns-clause-inside : goal.returns-clause-inside
returns-clause-inside c =
    let grid = c.args.self.now in
    let region = c.args.region.now in
    let counts = tile_counts (lengths_of grid.shape) (lengths_of grid.tile) in
    let cut = cut_of _ _ (tiling_of grid.shape grid.tile grid.divided) in
    let box = touched_is_box (lengths_of grid.shape) (lengths_of grid.tile) (region_corner region) (region_lengths region) cut (box_of grid.shape region (shape_long grid.shape grid.tile grid.divided) (omega arith) (omega arith) grid.divided.axes c.requires) in
    subst (AllByRecursion (λ t. t < product counts)) (sym (are_those c)) (places_inside _ _ _ box)
