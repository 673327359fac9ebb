use Rattle.std.proofs.Common.{◌≡◌, take, ap, sym, ◌∙◌, arith}
use Rattle.fz_grid.specs.Arrays.{product}
use Rattle.fz_grid.specs.Region.{lengths_of}
use Rattle.fz_grid.proofs.SieveLemmas.{sifts_of}
use Rattle.fz_grid.proofs.TableLemmas.{counts_list, long_enough, product_le}
use Rattle.fz_grid.proofs.tile_parts.cutout_axes.Goals as goal

pub returns-clause-shape : goal.returns-clause-shape
returns-clause-shape c =
    let shape = c.args.shape.now in
    let cutout = c.loop-i.cutout in
    let same : cutout.n ≡ shape.n = c.loop-i.invariant.0 in
    let few = c.requires.shape.axes in
    record {
      some = omega (arith, same, c.requires.shape.some);
      axes = omega (arith, same, few);
      positive = λ i h. omega (arith, c.loop-i.invariant.2 i (omega (arith, same)));
      pixels =
          let most = product_le cutout.len shape.len shape.n (omega (arith, few, c.loop-i.invariant.1)) (long_enough shape.len shape.n c.requires.shape.positive) (λ i h. c.loop-i.invariant.3 i (omega arith)) in
          let named : product (lengths_of cutout) ≡ product (take shape.n cutout.len) = ap (λ n. product (take n cutout.len)) same in
          omega (arith, most, named, c.requires.shape.pixels);
    }

pub returns-clause-lengths : goal.returns-clause-lengths
returns-clause-lengths c =
    let sieve = c.args.sieve.now in
    let cutout = c.loop-i.cutout in
    let same : cutout.n ≡ sieve.n = c.loop-i.invariant.0 ∙ sym c.requires.sieve.same_axes in
    let of_sieve = c.requires.sieve.same_axes in
    let few = c.requires.shape.axes in
    ap (λ n. take n cutout.len) same
    ∙ counts_list cutout.len sieve.lo sieve.hi sieve.step sieve.n (omega (arith, few, of_sieve, c.loop-i.invariant.1)) (omega (arith, few, of_sieve)) (omega (arith, few, of_sieve)) (omega (arith, few, of_sieve)) (λ i h. c.loop-i.invariant.2 i (omega (arith, of_sieve)))

pub returns-clause-sifts : goal.returns-clause-sifts
returns-clause-sifts c =
    let shape = c.args.shape.now in
    let few = c.requires.shape.axes in
    sifts_of shape c.args.sieve.now (long_enough shape.len shape.n c.requires.shape.positive) (omega (arith, few)) (omega (arith, few)) (omega (arith, few)) c.requires.sieve
