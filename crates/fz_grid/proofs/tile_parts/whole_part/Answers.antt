use Rattle.std.proofs.Common.{◌≡◌, ℕ, ◌<◌, get_or, ap, ◌∙◌, arith}
use Rattle.fz_grid.proofs.BoxLists.{PlaceLaws}
use Rattle.fz_grid.proofs.WholeParts.{all_one, all_zero, whole_count, whole_places}
use Rattle.fz_grid.proofs.tile_parts.whole_part.Goals as goal

zero_at : (c : goal.After-result-1) (i : ℕ) → i < 9 → get_or c.loop-i.inside.lo i 0 ≡ 0
zero_at c i h = ap (λ l. get_or l i 0) c.loop-i.invariant.1 ∙ all_zero 9 i

one_at : (c : goal.After-result-1) (i : ℕ) → i < 9 → get_or c.loop-i.inside.step i 0 ≡ 1
one_at c i h = ap (λ l. get_or l i 0) c.loop-i.invariant.2 ∙ all_one 9 i h

pub returns-clause-inside : goal.returns-clause-inside
returns-clause-inside c =
    let few = c.requires.axes in
    record {
      same_axes = c.loop-i.invariant.0;
      ordered = λ i h. omega (arith, zero_at c i (omega (arith, h, few)));
      inside = λ i h. omega (arith, c.loop-i.invariant.4 i (omega (arith, h)), c.requires.positive i h);
      positive = λ i h. omega (arith, one_at c i (omega (arith, h, few)));
    }

pub returns-clause-counts : goal.returns-clause-counts
returns-clause-counts c =
    let few = c.requires.axes in
    λ i h.
    whole_count _ _ _ _ (zero_at c i (omega (arith, h, few))) (c.loop-i.invariant.4 i (omega (arith, h))) (one_at c i (omega (arith, h, few))) (c.requires.positive i h)

pub returns-clause-places : goal.returns-clause-places
returns-clause-places c =
    let few = c.requires.axes in
    let laws : PlaceLaws = record {
      inside = c.place_law.ensures.inside;
      coordinates = c.place_law.ensures.coordinates;
      numbers = c.place_law.ensures.numbers;
      order = c.place_law.ensures.order;
    } in
    whole_places laws c.args.region.now c.loop-i.inside few (omega arith) c.loop-i.invariant.0 c.loop-i.invariant.1 c.loop-i.invariant.2 c.loop-i.invariant.3 (returns-clause-counts c)

pub returns-clause-step : goal.returns-clause-step
returns-clause-step c = one_at c 0 (omega arith)
