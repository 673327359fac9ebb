use Rattle.std.proofs.Common.{◌≡◌, ℕ, suc, ◌+◌, ◌-◌, ◌<◌, ◌≤◌, ◌^◌, List, length, get_or, map, take, set, ap, subst, sym, ◌∙◌, arith, length-take}
use Rattle.std.proofs.lemmas.List.{get_or-take, take-take}
use Rattle.fz_block.specs.declared.axes.Axes.{Axes}
use Rattle.fz_grid.specs.declared.region.Region.{Region}
use Rattle.fz_grid.specs.Arrays.{product}
use Rattle.fz_grid.specs.Region.{IsShape, IsWithin, lengths_of, places_of, region_corner, region_lengths}
use Rattle.fz_grid.specs.Runs.{AreRunsOf}
use Rattle.fz_grid.specs.Walks.{places_left}
use Rattle.fz_grid.proofs.BoxLemmas.{IsBox, box_le, box_of, lengths_positive}
use Rattle.fz_grid.proofs.JoinedLemmas.{AreJoined, are_runs}
use Rattle.fz_grid.proofs.Lists.{long_enough, product_take_le}
use Rattle.fz_grid.proofs.Ones.{ones, ones_at, ones_front, ones_more}
use Rattle.fz_grid.proofs.RunLemmas.{runs_inside, runs_total}
use Rattle.fz_grid.proofs.joined.runs.Goals as goal

pub loop-i-preserved : goal.loop-i-preserved
loop-i-preserved c =
    let region = c.args.region.now in
    let i = c.loop-i.i in
    let next = ones_more i region.len (omega arith) in
    let up : suc i ≡ i + 1 = omega arith in (
      c.loop-i.invariant.0,
      c.loop-i.invariant.1,
      ap (λ l. set l i 1) c.loop-i.invariant.2 ∙ (next ∙ ap (λ k. ones k region.len) up),
    )

-- the axes that stand together have no more places than the array
joined_few : (shape : Axes) (region : Region) (m : ℕ) → IsShape shape → IsWithin shape region → m ≤ shape.n → length region.lo ≡ 9 → length region.len ≡ 9 → product (take m region.len) ≤ 2 ^ 40
joined_few shape region m is within in_shape lo_len len_len =
    let box = box_of shape region (long_enough shape.len shape.n is.positive) lo_len len_len is.axes within in
    let front : take m (region_lengths region) ≡ take m region.len = take-take m region.n region.len (omega (arith, within.same_axes)) in
    let few = product_take_le (region_lengths region) m (lengths_positive _ _ _ box) in
    omega (arith, ap product front, few, box_le _ _ _ box, is.pixels)

pub new-requires-clause-region : goal.new-requires-clause-region
new-requires-clause-region c =
    let shape = c.args.shape.now in
    let region = c.args.region.now in
    let first = c.loop-i.first in
    let at_len : (i : ℕ) → get_or first.len i 0 ≡ get_or (ones c.loop-i.i region.len) i 0 = λ i. ap (λ l. get_or l i 0) c.loop-i.invariant.2 in
    let at_lo : (i : ℕ) → get_or first.lo i 0 ≡ get_or region.lo i 0 = λ i. ap (λ l. get_or l i 0) c.loop-i.invariant.1 in
    record {
      same_axes = c.loop-i.invariant.0 ∙ c.requires.region.same_axes;
      positive = λ i h. omega (arith, at_len i, (ones_at c.loop-i.i region.len i (c.requires.region.positive i h)).0);
      inside = λ i h. omega (arith, at_len i, at_lo i, (ones_at c.loop-i.i region.len i (c.requires.region.positive i h)).1, c.requires.region.inside i h);
    }

-- the run has as many places as the axes that stand together
run_length : (c : goal.After-new) → c.volume-length.result ≡ product (take c.joined_axes-joined.result c.args.region.now.len)
run_length c =
    let few = joined_few c.args.shape.now c.args.region.now c.joined_axes-joined.result c.requires.shape c.requires.region (omega arith) (omega arith) (omega arith) in
    omega (arith, c.volume-length.ensures, few)

-- the axes of the tables that stand together, as lists
are_joined : (c : goal.After-new) → AreJoined (lengths_of c.args.shape.now) (region_lengths c.args.region.now) c.joined_axes-joined.result
are_joined c =
    let shape = c.args.shape.now in
    let region = c.args.region.now in
    let same = c.requires.region.same_axes in
    let long = long_enough shape.len shape.n c.requires.shape.positive in
    let count : length (lengths_of shape) ≡ shape.n = length-take shape.n shape.len ∙ omega arith in
    record {
      some = c.joined_axes-joined.ensures.some;
      few = omega (arith, count, c.joined_axes-joined.ensures.few);
      full =
          λ i h.
          let in_shape : i < shape.n = omega (arith, c.joined_axes-joined.ensures.few) in
          let in_region : i < region.n = omega arith in
          get_or-take region.n region.len i 0 in_region ∙ (c.joined_axes-joined.ensures.full i h ∙ sym (get_or-take shape.n shape.len i 0 in_shape));
      shorter =
          λ i e h same_length.
          let in_shape : i < shape.n = omega (arith, c.joined_axes-joined.ensures.few) in
          let in_region : i < region.n = omega arith in
          let before : i ≡ c.joined_axes-joined.result - 1 = omega arith in
          let here : get_or region.len i 0 ≡ get_or shape.len i 0 = sym (get_or-take region.n region.len i 0 in_region) ∙ (same_length ∙ get_or-take shape.n shape.len i 0 in_shape) in
          c.joined_axes-joined.ensures.shorter (omega (arith, count)) (ap (λ k. get_or region.len k 0) (sym before) ∙ (here ∙ ap (λ k. get_or shape.len k 0) before));
    }

-- what is answered
are_those : (c : goal.After-new) → AreRunsOf (places_of (lengths_of c.args.shape.now) (region_corner c.args.region.now) (region_lengths c.args.region.now)) (map (λ s. (s, c.volume-length.result)) (places_left c.new.result))
are_those c =
    let shape = c.args.shape.now in
    let region = c.args.region.now in
    let first = c.loop-i.first in
    let m = c.joined_axes-joined.result in
    let array = lengths_of shape in
    let corner = region_corner region in
    let lengths = region_lengths region in
    let box = box_of shape region (long_enough shape.len shape.n c.requires.shape.positive) (omega arith) (omega arith) c.requires.shape.axes c.requires.region in
    let are = are_runs array corner lengths m box (are_joined c) in
    let in_region : m ≤ region.n = omega (arith, c.requires.region.same_axes, c.joined_axes-joined.ensures.few) in
    let at_end : c.loop-i.i ≡ m = omega arith in
    let corner_is : region_corner first ≡ corner = ap (λ n. take n first.lo) c.loop-i.invariant.0 ∙ ap (take region.n) c.loop-i.invariant.1 in
    let lengths_are : region_lengths first ≡ ones m lengths =
    ap (λ n. take n first.len) c.loop-i.invariant.0
    ∙ (ap (take region.n) c.loop-i.invariant.2
    ∙ (ap (λ k. take region.n (ones k region.len)) at_end ∙ ones_front m region.n region.len in_region)) in
    let starts : places_left c.new.result ≡ places_of array corner (ones m lengths) =
    c.new.ensures.left ∙ (ap (λ l. places_of array l (region_lengths first)) corner_is ∙ ap (places_of array corner) lengths_are) in
    let length_is : c.volume-length.result ≡ product (take m lengths) =
    run_length c ∙ ap product (sym (take-take m region.n region.len in_region)) in
    subst (λ (k : ℕ). AreRunsOf (places_of array corner lengths) (map (λ s. (s, k)) (places_left c.new.result))) (sym length_is)
    (subst (λ (l : List ℕ). AreRunsOf (places_of array corner lengths) (map (λ s. (s, product (take m lengths))) l)) (sym starts) are)

pub returns-clause-runs : goal.returns-clause-runs
returns-clause-runs c = are_those c

the_box : (c : goal.After-new) → IsBox (lengths_of c.args.shape.now) (region_corner c.args.region.now) (region_lengths c.args.region.now)
the_box c =
    let shape = c.args.shape.now in
    box_of shape c.args.region.now (long_enough shape.len shape.n c.requires.shape.positive) (omega arith) (omega arith) c.requires.shape.axes c.requires.region

pub returns-clause-inside : goal.returns-clause-inside
returns-clause-inside c = runs_inside _ _ _ _ (the_box c) (are_those c)

pub returns-clause-pixels : goal.returns-clause-pixels
returns-clause-pixels c = runs_total _ _ _ _ (are_those c)
