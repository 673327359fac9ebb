use Rattle.std.proofs.Common.{◌≡◌, ◌+◌, ◌++◌, ◌∷◌, false, take, drop, ap, sym, ◌∙◌, refl, arith, length-set}
use Rattle.std.proofs.lemmas.Bool.{false≢true}
use Rattle.fz_grid.specs.Grid.{tile_lengths}
use Rattle.fz_grid.specs.Overlap.{common_corner, common_lengths, has_pixel, shared_lengths}
use Rattle.fz_grid.specs.Region.{lengths_of, region_corner, region_lengths}
use Rattle.fz_grid.proofs.Filling.{filled_more, within_more, zero_more}
use Rattle.fz_grid.proofs.OverlapLemmas.{common_at, common_corner_more, no_pixel, some_pixel}
use Rattle.fz_grid.proofs.grid.Grid.overlap.Goals as goal

pub returns-then-len-eq0-clause-some : goal.returns-then-len-eq0-clause-some
returns-then-len-eq0-clause-some c =
    let region = c.args.region.now in
    let tile = c.tile_box-tile.result in
    let here = common_at region tile c.loop-i.i c.max-lo.result c.saturating_sub-of_region.result c.saturating_sub-of_tile.result c.min-len.result (omega arith) (omega arith) (omega arith) (omega arith) (omega (arith, c.requires.region.same_axes)) (omega (arith, c.requires.region.same_axes, c.tile_box-tile.ensures.axes)) (omega (arith, c.requires.region.same_axes)) c.max-lo.ensures c.saturating_sub-of_region.ensures c.saturating_sub-of_tile.ensures c.min-len.ensures in
    let none = no_pixel c.min-len.result (common_lengths (drop (c.loop-i.i + 1) (region_corner region)) (drop (c.loop-i.i + 1) (region_lengths region)) (drop (c.loop-i.i + 1) (region_corner tile)) (drop (c.loop-i.i + 1) (region_lengths tile))) (omega arith) in
    let all : has_pixel (common_lengths (region_corner region) (region_lengths region) (region_corner tile) (region_lengths tile)) ≡ false =
    sym c.loop-i.invariant.3 ∙ (ap has_pixel here ∙ none) in
    let shared : has_pixel (shared_lengths (lengths_of c.args.self.now.shape) (lengths_of c.args.self.now.tile) (region_corner region) (region_lengths region) c.args.t) ≡ false =
    ap (λ l. has_pixel (common_lengths (region_corner region) (region_lengths region) l (tile_lengths (lengths_of c.args.self.now.shape) (lengths_of c.args.self.now.tile) c.args.t))) (sym c.tile_box-tile.ensures.corner)
    ∙ (ap (λ l. has_pixel (common_lengths (region_corner region) (region_lengths region) (region_corner tile) l)) (sym c.tile_box-tile.ensures.lengths) ∙ all) in
    (λ e. absurd (false≢true e), λ h. absurd (false≢true (sym shared ∙ h)))

pub loop-i-preserved : goal.loop-i-preserved
loop-i-preserved c =
    let region = c.args.region.now in
    let tile = c.tile_box-tile.result in
    let i = c.loop-i.i in
    let same = c.requires.region.same_axes in
    let same' = c.tile_box-tile.ensures.axes in
    let here = common_at region tile i c.max-lo.result c.saturating_sub-of_region.result c.saturating_sub-of_tile.result c.min-len.result (omega arith) (omega arith) (omega arith) (omega arith) (omega arith) (omega arith) (omega arith) c.max-lo.ensures c.saturating_sub-of_region.ensures c.saturating_sub-of_tile.ensures c.min-len.ensures in
    let corner_rest = common_corner (drop (i + 1) (region_corner region)) (drop (i + 1) (region_corner tile)) in
    let lengths_rest = common_lengths (drop (i + 1) (region_corner region)) (drop (i + 1) (region_lengths region)) (drop (i + 1) (region_corner tile)) (drop (i + 1) (region_lengths tile)) in
    let corner_step = common_corner_more region.lo tile.lo region.n tile.n i (i + 1) (omega arith) (omega arith) (omega arith) (omega arith) refl in
    let corner_so_far = ap (λ v. take i c.loop-i.common.lo ++ (v ∷ corner_rest)) c.max-lo.ensures ∙ (ap (λ l. take i c.loop-i.common.lo ++ l) (sym corner_step) ∙ c.loop-i.invariant.1) in
    let lengths_so_far = ap (λ l. take i c.loop-i.common.len ++ l) (sym here) ∙ c.loop-i.invariant.2 in (
      c.loop-i.invariant.0,
      filled_more c.loop-i.common.lo i (i + 1) _ corner_rest _ (omega arith) refl corner_so_far,
      filled_more c.loop-i.common.len i (i + 1) _ lengths_rest _ (omega arith) refl lengths_so_far,
      sym (some_pixel c.min-len.result lengths_rest (omega arith)) ∙ (ap has_pixel (sym here) ∙ c.loop-i.invariant.3),
      zero_more _ i _ c.loop-i.invariant.4,
      zero_more _ i _ c.loop-i.invariant.5,
      length-set c.loop-i.common.lo i _ ∙ c.loop-i.invariant.6,
      length-set c.loop-i.common.len i _ ∙ c.loop-i.invariant.7,
      within_more c.args.self.now.shape.len c.loop-i.common.lo c.loop-i.common.len i c.max-lo.result c.min-len.result (omega arith) (omega arith) (omega arith) (omega (arith, c.requires.region.inside i (omega arith))) c.loop-i.invariant.8,
    )

pub returns-clause-within : goal.returns-clause-within
returns-clause-within c =
    record {
      same_axes = c.loop-i.invariant.0;
      positive = λ i h. (c.loop-i.invariant.8 i (omega arith)).0;
      inside = λ i h. (c.loop-i.invariant.8 i (omega arith)).1;
    }
