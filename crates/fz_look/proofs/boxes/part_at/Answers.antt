-- One axis after another, as far as there is room.
use Rattle.std.proofs.Common.{◌≡◌, ℕ, ◌*◌, ◌/◌, ◌<◌, ◌≤◌, get_or, length, replicate, take, set, refl, sym, ap, ◌∙◌, subst, arith, length-set, get_or-set_other, get_or-set_same}
use Rattle.fz_grid.specs.Arrays.{product}
use Rattle.fz_look.proofs.BoxParts.{at_least, has_few, has_the_pixel, is_within, one_along, one_at, others, part_box, part_fits, product_ones, product_parts, product_set}
use Rattle.fz_look.proofs.boxes.part_at.Goals as goal

pub loop-i-init : goal.loop-i-init
loop-i-init c = record {
  same_axes = refl;
  lo_is = refl;
  len_long = refl;
  along = λ k few. one_along _ _ _ (one_at k (omega (arith, few, c.requires.shape.axes))) (c.requires.at k few);
  ones = λ k from few. one_at k (omega (arith, few, c.requires.shape.axes));
  room = c.requires.some;
  fits = omega (arith, ap (λ n. n * c.args.most) (product_ones (replicate 9 1) c.args.shape.now.n (omega (arith, c.requires.shape.axes)) (λ k few. one_at k (omega (arith, few, c.requires.shape.axes)))));
}

pub loop-i-preserved : goal.loop-i-preserved
loop-i-preserved c =
    let old = c.loop-i.invariant in
    let region = c.loop-i.region in
    let i : ℕ = c.loop-i.i in
    let n : ℕ = c.args.shape.now.n in
    let few : i < n = omega arith in
    let inside : i < length region.len = omega (arith, few, old.len_long, c.requires.shape.axes) in
    let part : ℕ = c.min.result in
    let along = part_box region.lo region.len c.args.at.now c.args.shape.now.len n i c.tile_with-first.result.0 c.tile_with-first.result.1 c.from-left.result c.loop-i.room part few inside old.lo_is c.tile_with-first.ensures.tile c.from-left.ensures c.min.ensures old.room old.along in
    let parts : product (take n region.len) ≡ get_or region.len i 0 * others region.len n i = product_parts region.len n i few inside in
    let one : product (take n region.len) ≡ 1 * others region.len n i = parts ∙ ap (λ m. m * others region.len n i) (old.ones i (omega arith) few) in
    let fits = part_fits (others region.len n i) (product (take n region.len)) part c.loop-i.room c.args.most one old.fits (omega (arith, c.min.ensures)) old.room in
    let made : product (take n (set region.len i part)) ≡ part * others region.len n i = product_set region.len n i part few inside in
    record {
      same_axes = old.same_axes;
      lo_is = old.lo_is;
      len_long = length-set region.len i part ∙ old.len_long;
      along = along;
      ones = λ k from below. get_or-set_other region.len i k part 0 (omega (arith, from)) ∙ old.ones k (omega (arith, from)) below;
      room = omega arith;
      fits = subst (λ m. m * (c.loop-i.room / c.from-room.result) ≤ c.args.most) (sym made) (subst (λ w. part * others region.len n i * (c.loop-i.room / w) ≤ c.args.most) (sym (c.from-room.ensures ∙ get_or-set_same region.len i part 0 inside)) fits.1);
    }

pub returns-then-at-i-clause-within : goal.returns-then-at-i-clause-within
returns-then-at-i-clause-within c =
    let old = c.loop-i.invariant in
    let region = c.loop-i.region in
    let i : ℕ = c.loop-i.i in
    let n : ℕ = c.args.shape.now.n in
    let few : i < n = omega arith in
    let inside : i < length region.len = omega (arith, few, old.len_long, c.requires.shape.axes) in
    let part : ℕ = c.min.result in
    let along = part_box region.lo region.len c.args.at.now c.args.shape.now.len n i c.tile_with-first.result.0 c.tile_with-first.result.1 c.from-left.result c.loop-i.room part few inside old.lo_is c.tile_with-first.ensures.tile c.from-left.ensures c.min.ensures old.room old.along in
    is_within c.args.shape.now _ c.args.at.now n old.same_axes refl along

pub returns-then-at-i-clause-has : goal.returns-then-at-i-clause-has
returns-then-at-i-clause-has c =
    let old = c.loop-i.invariant in
    let region = c.loop-i.region in
    let i : ℕ = c.loop-i.i in
    let n : ℕ = c.args.shape.now.n in
    let few : i < n = omega arith in
    let inside : i < length region.len = omega (arith, few, old.len_long, c.requires.shape.axes) in
    let part : ℕ = c.min.result in
    let along = part_box region.lo region.len c.args.at.now c.args.shape.now.len n i c.tile_with-first.result.0 c.tile_with-first.result.1 c.from-left.result c.loop-i.room part few inside old.lo_is c.tile_with-first.ensures.tile c.from-left.ensures c.min.ensures old.room old.along in
    has_the_pixel c.args.shape.now _ c.args.at.now n old.same_axes along

pub returns-then-at-i-clause-fits : goal.returns-then-at-i-clause-fits
returns-then-at-i-clause-fits c =
    let old = c.loop-i.invariant in
    let region = c.loop-i.region in
    let i : ℕ = c.loop-i.i in
    let n : ℕ = c.args.shape.now.n in
    let few : i < n = omega arith in
    let inside : i < length region.len = omega (arith, few, old.len_long, c.requires.shape.axes) in
    let part : ℕ = c.min.result in
    let parts : product (take n region.len) ≡ get_or region.len i 0 * others region.len n i = product_parts region.len n i few inside in
    let one : product (take n region.len) ≡ 1 * others region.len n i = parts ∙ ap (λ m. m * others region.len n i) (old.ones i (omega arith) few) in
    let fits = part_fits (others region.len n i) (product (take n region.len)) part c.loop-i.room c.args.most one old.fits (omega (arith, c.min.ensures)) old.room in
    let made : product (take n (set region.len i part)) ≡ part * others region.len n i = product_set region.len n i part few inside in
    has_few (record region { len = set region.len i part }) n c.args.most old.same_axes (omega (arith, made, fits.0))

pub returns-clause-within : goal.returns-clause-within
returns-clause-within c = is_within c.args.shape.now c.loop-i.region c.args.at.now c.args.shape.now.n c.loop-i.invariant.same_axes refl c.loop-i.invariant.along

pub returns-clause-has : goal.returns-clause-has
returns-clause-has c = has_the_pixel c.args.shape.now c.loop-i.region c.args.at.now c.args.shape.now.n c.loop-i.invariant.same_axes c.loop-i.invariant.along

pub returns-clause-fits : goal.returns-clause-fits
returns-clause-fits c =
    let old = c.loop-i.invariant in
    has_few c.loop-i.region c.args.shape.now.n c.args.most old.same_axes (at_least (product (take c.args.shape.now.n c.loop-i.region.len)) c.loop-i.room c.args.most old.room old.fits)
