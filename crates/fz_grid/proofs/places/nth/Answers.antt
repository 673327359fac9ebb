use Rattle.std.proofs.Common.{◌≡◌, ◌+◌, ◌*◌, ◌/◌, ◌%◌, ◌<◌, drop, ap, sym, ◌∙◌, refl, arith}
use Rattle.fz_grid.specs.Arrays.{product}
use Rattle.fz_grid.specs.Nth.{nth_place}
use Rattle.fz_grid.specs.Region.{lengths_of, region_corner, region_lengths}
use Rattle.fz_grid.proofs.BoxLemmas.{box_of, nth_lt}
use Rattle.fz_grid.proofs.Lists.{positive_front, product_more, product_pos}
use Rattle.fz_grid.proofs.NthLemmas.{factor_le, stride_step, with_axis}
use Rattle.fz_grid.proofs.places.nth.Goals as goal

-- the number up to this axis is no greater than that of the place, which lies in the array
is_bounded : (c : goal.After-from) → c.loop-i.place + c.loop-i.stride * (c.from.result + c.loop-i.digits % c.from-length.result) < product (lengths_of c.args.shape.now)
is_bounded c =
    let shape = c.args.shape.now in
    let region = c.args.region.now in
    let whole = with_axis shape region c.loop-i.place c.loop-i.stride c.loop-i.digits c.loop-i.i c.from.result c.from-length.result c.args.k (omega arith) (omega arith) (omega arith) (omega arith) c.requires.region.same_axes (omega arith) c.from.ensures c.from-length.ensures c.loop-i.invariant.0 in
    let inside = nth_lt (lengths_of shape) (region_corner region) (region_lengths region) c.args.k (box_of shape region (omega arith) (omega arith) (omega arith) c.requires.shape.axes c.requires.region) in
    omega (arith, whole, inside)

pub overflow_mul-place : goal.overflow_mul-place
overflow_mul-place c = omega (arith, is_bounded c)

pub overflow_add-place-in-loop-i : goal.overflow_add-place-in-loop-i
overflow_add-place-in-loop-i c = omega (arith, is_bounded c)

-- the stride over this axis too
next_stride : (c : goal.After-from-stride) → c.loop-i.stride * c.from-stride.result * product (drop (c.loop-i.i + 1) (lengths_of c.args.shape.now)) ≡ product (lengths_of c.args.shape.now)
next_stride c =
    let shape = c.args.shape.now in
    let step = product_more shape.len shape.n c.loop-i.i (c.loop-i.i + 1) (omega arith) (omega arith) refl in
    stride_step c.loop-i.stride c.from-stride.result _ _ _ (step ∙ ap (λ n. n * product (drop (c.loop-i.i + 1) (lengths_of shape))) (sym c.from-stride.ensures)) c.loop-i.invariant.1

pub overflow_mul-stride : goal.overflow_mul-stride
overflow_mul-stride c =
    let shape = c.args.shape.now in
    let positive = product_pos (lengths_of shape) (positive_front shape.len shape.n c.requires.shape.positive) in
    let fits = factor_le _ _ _ (next_stride c) positive in
    omega (arith, fits)

pub loop-i-preserved : goal.loop-i-preserved
loop-i-preserved c =
    let shape = c.args.shape.now in
    let region = c.args.region.now in
    let whole = with_axis shape region c.loop-i.place c.loop-i.stride c.loop-i.digits c.loop-i.i c.from.result c.from-length.result c.args.k (omega arith) (omega arith) (omega arith) (omega arith) c.requires.region.same_axes (omega arith) c.from.ensures c.from-length.ensures c.loop-i.invariant.0 in
    let higher = nth_place (drop (c.loop-i.i + 1) (lengths_of shape)) (drop (c.loop-i.i + 1) (region_corner region)) (drop (c.loop-i.i + 1) (region_lengths region)) (c.loop-i.digits / c.from-length.result) in (
      ap (λ n. c.loop-i.place + c.loop-i.stride * (c.from.result + c.loop-i.digits % c.from-length.result) + c.loop-i.stride * n * higher) c.from-stride.ensures ∙ whole,
      next_stride c,
    )

pub returns-clause-inside : goal.returns-clause-inside
returns-clause-inside c =
    let shape = c.args.shape.now in
    let region = c.args.region.now in
    let inside = nth_lt (lengths_of shape) (region_corner region) (region_lengths region) c.args.k (box_of shape region (omega arith) (omega arith) (omega arith) c.requires.shape.axes c.requires.region) in
    omega (arith, c.loop-i.invariant.0, inside)
