use Rattle.std.proofs.Common.{◌+◌, ◌++◌, take, drop, ap, sym, ◌∙◌, refl, arith, length-set}
use Rattle.fz_grid.specs.Region.{lengths_of, region_corner, region_lengths}
use Rattle.fz_grid.specs.Span.{first_tiles, touched_counts}
use Rattle.fz_grid.proofs.Filling.{filled_more}
use Rattle.fz_grid.proofs.SpanLemmas.{first_more, touched_more}
use Rattle.fz_grid.proofs.grid.Grid.span.Goals as goal

pub loop-i-preserved : goal.loop-i-preserved
loop-i-preserved c =
    let grid = c.args.self.now in
    let region = c.args.region.now in
    let i = c.loop-i.i in
    let same = c.requires.same_axes in
    let same' = grid.divided.same_axes in
    let first_rest = first_tiles (drop (i + 1) (region_corner region)) (drop (i + 1) (lengths_of grid.tile)) in
    let touched_rest = touched_counts (drop (i + 1) (region_corner region)) (drop (i + 1) (region_lengths region)) (drop (i + 1) (lengths_of grid.tile)) in
    let first_step = first_more region.lo grid.tile.len region.n grid.tile.n i (i + 1) (omega arith) (omega arith) (omega arith) (omega arith) refl in
    let touched_step = touched_more region.lo region.len grid.tile.len region.n grid.tile.n i (i + 1) (omega arith) (omega arith) (omega arith) (omega arith) (omega arith) refl in (
      c.loop-i.invariant.0,
      filled_more c.loop-i.span.lo i (i + 1) _ first_rest _ (omega arith) refl (ap (λ l. take i c.loop-i.span.lo ++ l) (sym first_step) ∙ c.loop-i.invariant.1),
      filled_more c.loop-i.span.len i (i + 1) _ touched_rest _ (omega arith) refl (ap (λ l. take i c.loop-i.span.len ++ l) (sym touched_step) ∙ c.loop-i.invariant.2),
      length-set c.loop-i.span.lo i _ ∙ c.loop-i.invariant.3,
      length-set c.loop-i.span.len i _ ∙ c.loop-i.invariant.4,
    )
