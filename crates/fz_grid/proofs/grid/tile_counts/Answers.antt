use Rattle.std.proofs.Common.{◌≡◌, [], ◌+◌, ◌++◌, take, drop, ap, sym, ◌∙◌, refl, arith, length-set}
use Rattle.fz_grid.specs.Grid.{tile_counts}
use Rattle.fz_grid.specs.Region.{lengths_of}
use Rattle.fz_grid.proofs.Filling.{filled_all, filled_more, zero_more}
use Rattle.fz_grid.proofs.GridLemmas.{counts_more}
use Rattle.fz_grid.proofs.Lists.{rest_none}
use Rattle.fz_grid.proofs.grid.tile_counts.Goals as goal

pub loop-i-preserved : goal.loop-i-preserved
loop-i-preserved c =
    let shape = c.args.shape.now in
    let tile = c.args.tile.now in
    let i = c.loop-i.i in
    let rest = tile_counts (drop (i + 1) (lengths_of shape)) (drop (i + 1) (lengths_of tile)) in
    let step = counts_more shape.len tile.len shape.n tile.n i (i + 1) c.tiles_along.result (omega arith) (omega arith) (omega (arith, c.requires.same)) (omega (arith, c.requires.same)) refl c.tiles_along.ensures in
    let so_far = ap (λ l. take i c.loop-i.counts.len ++ l) (sym step) ∙ c.loop-i.invariant.1 in (
      c.loop-i.invariant.0,
      filled_more c.loop-i.counts.len i (i + 1) c.tiles_along.result rest _ (omega arith) refl so_far,
      length-set c.loop-i.counts.len i c.tiles_along.result ∙ c.loop-i.invariant.2,
      zero_more _ i _ c.loop-i.invariant.3,
    )

pub returns-clause-counts : goal.returns-clause-counts
returns-clause-counts c =
    let shape = c.args.shape.now in
    let tile = c.args.tile.now in
    let at_end : c.loop-i.i ≡ shape.n = omega arith in
    let same : c.loop-i.counts.n ≡ c.loop-i.i = omega (arith, c.loop-i.invariant.0) in
    let none : tile_counts (drop c.loop-i.i (lengths_of shape)) (drop c.loop-i.i (lengths_of tile)) ≡ [] =
    ap (λ i. tile_counts (drop i (lengths_of shape)) (drop c.loop-i.i (lengths_of tile))) at_end
    ∙ ap (λ l. tile_counts l (drop c.loop-i.i (lengths_of tile))) (rest_none shape.len shape.n) in
    ap (λ i. take i c.loop-i.counts.len) same ∙ filled_all c.loop-i.counts.len _ c.loop-i.i _ none c.loop-i.invariant.1
