use Rattle.std.proofs.Common.{◌≡◌, ℕ, get_or, ap, subst, sym, ◌∙◌, arith}
use Rattle.std.specs.List.{AllByRecursion, range_with_len}
use Rattle.fz_block.specs.declared.axes.Axes.{Axes}
use Rattle.fz_grid.specs.declared.region.Region.{Region}
use Rattle.fz_grid.specs.Arrays.{product}
use Rattle.fz_grid.specs.Grid.{tile_corner}
use Rattle.fz_grid.specs.Region.{IsWithin, lengths_of, places_of, region_corner, region_lengths}
use Rattle.fz_grid.specs.Sieve.{picked_places}
use Rattle.fz_grid.specs.declared.line.Line.{Line}
use Rattle.fz_grid.specs.Line.{IsPartBetween}
use Rattle.fz_grid.specs.LineWalks.{lines_left}
use Rattle.fz_grid.proofs.tile_parts.whole_lines.Goals as goal

pub lines-requires : goal.lines-requires
lines-requires c =
    let grid = c.args.grid.now in
    let part = c.whole_part.result in
    let at = c.whole_part.ensures.at in
    subst (λ (x : Axes). IsPartBetween x grid.shape part) (sym c.axes.ensures)
    (record {
      tile_is = c.tile_box-region.ensures.shape;
      cutout_is =
          record {
            some = grid.divided.some;
            axes = grid.divided.axes;
            positive = λ i h. omega (arith, grid.divided.positive i h, grid.divided.inside i h);
            pixels = grid.divided.pixels;
          };
      same_axes = sym c.tile_box-region.ensures.axes;
      inside = c.whole_part.ensures.inside;
      at = subst (IsWithin grid.shape) (sym at) c.tile_box-region.ensures.within;
      counts = λ i h. ap (λ (r : Region). get_or r.len i 0) at ∙ c.whole_part.ensures.counts i h;
    })

pub returns-clause-tile : goal.returns-clause-tile
returns-clause-tile c =
    c.lines.ensures.tile
    ∙ (ap (λ (x : Axes). picked_places (lengths_of x) c.whole_part.result.inside) c.axes.ensures
    ∙ (c.whole_part.ensures.places ∙ ap (λ l. range_with_len 0 (product l)) c.tile_box-region.ensures.lengths))

pub returns-clause-image : goal.returns-clause-image
returns-clause-image c =
    let array = lengths_of c.args.grid.now.shape in
    let region = c.tile_box-region.result in
    let corner = tile_corner array (lengths_of c.args.grid.now.tile) c.args.t in
    c.lines.ensures.cutout
    ∙ (ap (λ (r : Region). places_of array (region_corner r) (region_lengths r)) c.whole_part.ensures.at
    ∙ (ap (λ l. places_of array l (region_lengths region)) c.tile_box-region.ensures.corner ∙ ap (places_of array corner) c.tile_box-region.ensures.lengths))

pub returns-clause-step : goal.returns-clause-step
returns-clause-step c =
    subst (λ (step : ℕ). AllByRecursion (λ (line : Line). line.step ≡ step) (lines_left c.lines.result)) c.whole_part.ensures.step c.lines.ensures.step
