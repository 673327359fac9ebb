-- The tile of the pixel, axis by axis, and then as many as there is room for.
use Rattle.std.proofs.Common.{◌≡◌, ℕ, ◌-◌, ◌/◌, ◌^◌, ◌<◌, ◌≤◌, min, get_or, length, take, set, sym, ap, ◌∙◌, subst, arith, length-set, get_or-set_other}
use Rattle.fz_grid.specs.Arrays.{product}
use Rattle.fz_grid.specs.Region.{lengths_of}
use Rattle.fz_look.proofs.BoxParts.{AreAlong, has_few, has_the_pixel, is_within, longer_box, longer_fits, product_le, room_along}
use Rattle.fz_look.proofs.boxes.tiles_at.Goals as goal

pub loop-i-2-init : goal.loop-i-2-init
loop-i-2-init c =
    let old = c.loop-i.invariant in
    let n : ℕ = c.args.tile.now.n in
    let axes : n ≤ 9 = omega (arith, c.requires.divided.axes, c.requires.tile.same_axes) in
    let all : c.loop-i.i ≡ n = omega arith in
    let along = subst (λ m. AreAlong c.loop-i.region.lo c.loop-i.region.len c.args.at.now c.args.plan.now.shape.len m) all old.along in
    let less : product (take n c.loop-i.region.len) ≤ product (take n c.args.tile.now.len) =
    product_le c.loop-i.region.len c.args.tile.now.len n (omega (arith, axes)) (λ k few. old.short k (omega (arith, few, all))) (omega (arith, axes, old.len_long)) in
    record {
      same_axes = old.same_axes;
      lo_long = old.lo_long;
      len_long = old.len_long;
      along = along;
      short = λ k from few. old.short k (omega (arith, few, all));
      fits = omega (arith, less, c.requires.fits);
    }

pub nonzero_div-room : goal.nonzero_div-room
nonzero_div-room c =
    let region = c.loop-i-2.region in
    let old = c.loop-i-2.invariant in
    let i : ℕ = c.loop-i-2.i in
    let n : ℕ = c.args.tile.now.n in
    let long : n ≤ length region.len = omega (arith, old.len_long, c.requires.divided.axes, c.requires.tile.same_axes) in
    let volume : c.volume.result ≡ min (product (take n region.len)) (2 ^ 64 - 1) = c.volume.ensures ∙ (λ j. min (product (lengths_of (c.axes.ensures j))) (2 ^ 64 - 1)) ∙ ap (λ m. min (product (take m region.len)) (2 ^ 64 - 1)) old.same_axes in
    let room = room_along region.len n i c.volume.result c.from.result c.args.most (omega arith) long volume c.from.ensures old.fits c.ranges.most.fits (λ k few. (old.along k few).some) in
    omega (arith, room.0, room.1)

pub tiles_along-requires-clause-one : goal.tiles_along-requires-clause-one
tiles_along-requires-clause-one c =
    let region = c.loop-i-2.region in
    let old = c.loop-i-2.invariant in
    let i : ℕ = c.loop-i-2.i in
    let n : ℕ = c.args.tile.now.n in
    let few : i < n = omega arith in
    let long : n ≤ length region.len = omega (arith, old.len_long, c.requires.divided.axes, c.requires.tile.same_axes) in
    let volume : c.volume.result ≡ min (product (take n region.len)) (2 ^ 64 - 1) = c.volume.ensures ∙ (λ j. min (product (lengths_of (c.axes.ensures j))) (2 ^ 64 - 1)) ∙ ap (λ m. min (product (take m region.len)) (2 ^ 64 - 1)) old.same_axes in
    let room = room_along region.len n i c.volume.result c.from.result c.args.most few long volume c.from.ensures old.fits c.ranges.most.fits (λ k below. (old.along k below).some) in
    let here = old.along i few in
    (here.some, omega (arith, here.inside), subst (λ m. get_or region.len i 0 ≤ c.args.most / m) (sym room.0) room.2)

pub loop-i-2-preserved : goal.loop-i-2-preserved
loop-i-2-preserved c =
    let region = c.loop-i-2.region in
    let old = c.loop-i-2.invariant in
    let i : ℕ = c.loop-i-2.i in
    let n : ℕ = c.args.tile.now.n in
    let few : i < n = omega arith in
    let inside : i < length region.len = omega (arith, few, old.len_long, c.requires.divided.axes, c.requires.tile.same_axes) in
    let r : ℕ = c.tiles_along.result in
    let long : n ≤ length region.len = omega (arith, old.len_long, c.requires.divided.axes, c.requires.tile.same_axes) in
    let volume : c.volume.result ≡ min (product (take n region.len)) (2 ^ 64 - 1) = c.volume.ensures ∙ (λ j. min (product (lengths_of (c.axes.ensures j))) (2 ^ 64 - 1)) ∙ ap (λ m. min (product (take m region.len)) (2 ^ 64 - 1)) old.same_axes in
    let room = room_along region.len n i c.volume.result c.from.result c.args.most few long volume c.from.ensures old.fits c.ranges.most.fits (λ k below. (old.along k below).some) in
    let along = longer_box region.lo region.len c.args.at.now c.args.plan.now.shape.len n i r few inside c.tiles_along.ensures.one c.tiles_along.ensures.within.1 old.along in
    record {
      same_axes = old.same_axes;
      lo_long = old.lo_long;
      len_long = length-set region.len i r ∙ old.len_long;
      along = along;
      short = λ k from below. subst (λ x. x ≤ get_or c.args.tile.now.len k 0) (sym (get_or-set_other region.len i k r 0 (omega (arith, from)))) (old.short k (omega (arith, from)) below);
      fits = longer_fits region.len n i r (c.volume.result / c.from.result) c.args.most few inside room.0 c.tiles_along.ensures.fits;
    }

pub returns-then-region-i-clause-within : goal.returns-then-region-i-clause-within
returns-then-region-i-clause-within c =
    let region = c.loop-i-2.region in
    let old = c.loop-i-2.invariant in
    let i : ℕ = c.loop-i-2.i in
    let n : ℕ = c.args.tile.now.n in
    let few : i < n = omega arith in
    let inside : i < length region.len = omega (arith, few, old.len_long, c.requires.divided.axes, c.requires.tile.same_axes) in
    let r : ℕ = c.tiles_along.result in
    let along = longer_box region.lo region.len c.args.at.now c.args.plan.now.shape.len n i r few inside c.tiles_along.ensures.one c.tiles_along.ensures.within.1 old.along in
    is_within c.args.plan.now.shape _ c.args.at.now n old.same_axes c.requires.tile.same_axes along

pub returns-then-region-i-clause-has : goal.returns-then-region-i-clause-has
returns-then-region-i-clause-has c =
    let region = c.loop-i-2.region in
    let old = c.loop-i-2.invariant in
    let i : ℕ = c.loop-i-2.i in
    let n : ℕ = c.args.tile.now.n in
    let few : i < n = omega arith in
    let inside : i < length region.len = omega (arith, few, old.len_long, c.requires.divided.axes, c.requires.tile.same_axes) in
    let r : ℕ = c.tiles_along.result in
    let along = longer_box region.lo region.len c.args.at.now c.args.plan.now.shape.len n i r few inside c.tiles_along.ensures.one c.tiles_along.ensures.within.1 old.along in
    has_the_pixel c.args.plan.now.shape _ c.args.at.now n old.same_axes along

pub returns-then-region-i-clause-fits : goal.returns-then-region-i-clause-fits
returns-then-region-i-clause-fits c =
    let region = c.loop-i-2.region in
    let old = c.loop-i-2.invariant in
    let i : ℕ = c.loop-i-2.i in
    let n : ℕ = c.args.tile.now.n in
    let few : i < n = omega arith in
    let inside : i < length region.len = omega (arith, few, old.len_long, c.requires.divided.axes, c.requires.tile.same_axes) in
    let r : ℕ = c.tiles_along.result in
    let long : n ≤ length region.len = omega (arith, old.len_long, c.requires.divided.axes, c.requires.tile.same_axes) in
    let volume : c.volume.result ≡ min (product (take n region.len)) (2 ^ 64 - 1) = c.volume.ensures ∙ (λ j. min (product (lengths_of (c.axes.ensures j))) (2 ^ 64 - 1)) ∙ ap (λ m. min (product (take m region.len)) (2 ^ 64 - 1)) old.same_axes in
    let room = room_along region.len n i c.volume.result c.from.result c.args.most few long volume c.from.ensures old.fits c.ranges.most.fits (λ k below. (old.along k below).some) in
    has_few (record region { len = set region.len i r }) n c.args.most old.same_axes (longer_fits region.len n i r (c.volume.result / c.from.result) c.args.most few inside room.0 c.tiles_along.ensures.fits)

pub returns-clause-within : goal.returns-clause-within
returns-clause-within c =
    let old = c.loop-i-2.invariant in
    is_within c.args.plan.now.shape c.loop-i-2.region c.args.at.now c.args.tile.now.n old.same_axes c.requires.tile.same_axes old.along

pub returns-clause-has : goal.returns-clause-has
returns-clause-has c =
    let old = c.loop-i-2.invariant in
    has_the_pixel c.args.plan.now.shape c.loop-i-2.region c.args.at.now c.args.tile.now.n old.same_axes old.along

pub returns-clause-fits : goal.returns-clause-fits
returns-clause-fits c =
    let old = c.loop-i-2.invariant in
    has_few c.loop-i-2.region c.args.tile.now.n c.args.most old.same_axes old.fits
