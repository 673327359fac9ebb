use Rattle.std.proofs.Common.{◌≡◌, length, get_or, take, ap, sym, ◌∙◌, arith, length-set}
use Rattle.fz_grid.specs.Grid.{moved}
use Rattle.fz_grid.specs.Region.{region_corner}
use Rattle.fz_grid.specs.Sieve.{sieve_lo, sieve_step, stepped}
use Rattle.fz_grid.proofs.Filling.{same_more, zero_more}
use Rattle.fz_grid.proofs.PartAxes.{axis_has, count_again, parts_list, parts_more}
use Rattle.fz_grid.proofs.SieveLists.{counts_list}
use Rattle.fz_grid.proofs.sieve.Sieve.part.Goals as goal

pub part_along-axis-requires-clause-some : goal.part_along-axis-requires-clause-some
part_along-axis-requires-clause-some c =
    let sieve = c.args.self.now in
    let region = c.args.region.now in
    axis_has sieve.lo sieve.hi sieve.step region.lo region.len sieve.n region.n (omega (arith, c.requires.sieve.same_axes, c.requires.region.same_axes)) (omega arith) (omega arith) (omega arith) (omega arith) (omega arith) c.requires.some c.loop-i.i (omega arith)

pub loop-i-preserved : goal.loop-i-preserved
loop-i-preserved c =
    let sieve = c.args.self.now in
    let region = c.args.region.now in
    let i = c.loop-i.i in
    let axis = c.part_along-axis.result in (
      c.loop-i.invariant.0,
      c.loop-i.invariant.1,
      c.loop-i.invariant.2,
      length-set c.loop-i.at.lo i axis.first ∙ c.loop-i.invariant.3,
      length-set c.loop-i.at.len i axis.count ∙ c.loop-i.invariant.4,
      length-set c.loop-i.inside.lo i axis.lo ∙ c.loop-i.invariant.5,
      length-set c.loop-i.inside.hi i axis.hi ∙ c.loop-i.invariant.6,
      parts_more sieve.lo sieve.hi sieve.step region.lo region.len c.loop-i.at.lo c.loop-i.at.len c.loop-i.inside.lo c.loop-i.inside.hi i axis (omega arith) (omega arith) (omega arith) (omega arith) c.loop-i.invariant.7 c.part_along-axis.ensures,
      zero_more _ i _ c.loop-i.invariant.8,
      zero_more _ i _ c.loop-i.invariant.9,
      same_more _ _ i _ c.loop-i.invariant.10,
      same_more _ _ i _ c.loop-i.invariant.11,
    )

pub returns-clause-part : goal.returns-clause-part
returns-clause-part c =
    let sieve = c.args.self.now in
    let region = c.args.region.now in
    let same = c.requires.region.same_axes in
    let of_sieve = c.requires.sieve.same_axes in
    record {
      axes = omega (arith, c.loop-i.invariant.0);
      within =
          record {
            same_axes = omega (arith, c.loop-i.invariant.1);
            ordered = λ i h. omega (arith, (c.loop-i.invariant.7 i (omega arith)).to);
            inside = λ i h. (c.loop-i.invariant.7 i (omega arith)).inside;
            positive = λ i h. omega (arith, c.requires.sieve.positive i (omega arith), ap (λ l. get_or l i 0) c.loop-i.invariant.2);
          };
      first = λ i h. (c.loop-i.invariant.7 i (omega arith)).is_first;
      count = λ i h. (c.loop-i.invariant.7 i (omega arith)).is_count;
      some = λ i h. (c.loop-i.invariant.7 i (omega arith)).some;
      fits = λ i h. (c.loop-i.invariant.7 i (omega arith)).fits;
      from = λ i h. (c.loop-i.invariant.7 i (omega arith)).from;
      to = λ i h. (c.loop-i.invariant.7 i (omega arith)).to;
      step = λ i h. ap (λ l. get_or l i 0) c.loop-i.invariant.2;
    }

pub returns-clause-lengths : goal.returns-clause-lengths
returns-clause-lengths c =
    let sieve = c.args.self.now in
    let inside = c.loop-i.inside in
    let at = c.loop-i.at in
    let few = c.requires.axes in
    let of_sieve = c.requires.sieve.same_axes in
    let of_inside = c.loop-i.invariant.1 in
    let of_at = c.loop-i.invariant.0 in
    let step_length = ap length c.loop-i.invariant.2 in
    let n : inside.n ≡ at.n = omega (arith, of_inside, of_at) in
    sym (
    ap (λ m. take m at.len) (sym n)
    ∙ counts_list at.len inside.lo inside.hi inside.step inside.n (omega arith) (omega arith) (omega arith) (omega arith) (λ i h.
    let by = c.loop-i.invariant.7 i (omega (arith, of_inside)) in
    let positive = c.requires.sieve.positive i (omega (arith, of_inside, of_sieve)) in
    let here = ap (λ l. get_or l i 0) c.loop-i.invariant.2 in
    count_again (get_or inside.lo i 0) (get_or inside.hi i 0) (get_or inside.step i 0) (get_or sieve.step i 0) (get_or at.len i 0) here positive by.some by.to)
    )

pub returns-clause-picks : goal.returns-clause-picks
returns-clause-picks c =
    let sieve = c.args.self.now in
    let region = c.args.region.now in
    let inside = c.loop-i.inside in
    let at = c.loop-i.at in
    let few = c.requires.axes in
    let of_sieve = c.requires.sieve.same_axes in
    let of_region = c.requires.region.same_axes in
    let of_inside = c.loop-i.invariant.1 in
    let of_at = c.loop-i.invariant.0 in
    let n = sieve.n in
    let corner : take n region.lo ≡ region_corner region = ap (λ m. take m region.lo) (of_sieve ∙ sym of_region) in
    let at_corner : take n at.lo ≡ region_corner at = ap (λ m. take m at.lo) (sym of_at) in
    let lo : take n inside.lo ≡ sieve_lo inside = ap (λ m. take m inside.lo) (sym of_inside) in
    let step : sieve_step sieve ≡ sieve_step inside = ap (take n) (sym c.loop-i.invariant.2) ∙ ap (λ m. take m inside.step) (sym of_inside) in
    λ numbers count.
    ap (λ l. stepped (sieve_lo sieve) (sieve_step sieve) (moved l numbers)) (sym at_corner)
    ∙ (parts_list sieve.lo sieve.step at.lo region.lo inside.lo numbers n (omega arith) (omega arith) (omega arith) (omega arith) (omega arith) count (λ i h. (c.loop-i.invariant.7 i (omega arith)).from)
    ∙ (ap (λ l. moved l (stepped (take n inside.lo) (take n sieve.step) numbers)) corner
    ∙ (ap (λ l. moved (region_corner region) (stepped l (sieve_step sieve) numbers)) lo ∙ ap (λ l. moved (region_corner region) (stepped (sieve_lo inside) l numbers)) step)))

pub returns-clause-same_step : goal.returns-clause-same_step
returns-clause-same_step c = λ i h. ap (λ l. get_or l i 0) c.loop-i.invariant.2
