-- One axis after another.
use Rattle.std.proofs.Common.{◌≡◌, ◌≤◌, sym, ap, ◌∙◌, subst, arith}
use Rattle.fz_grid.specs.Region.{lengths_of}
use Rattle.fz_grid.specs.Sieve.{IsSieveOf, sieve_lengths}
use Rattle.fz_grid.specs.declared.sieve.Sieve.{Sieve}
use Rattle.fz_grid.specs.Cutout.{Sifts}
use Rattle.fz_look.specs.Boxes.{sieve_in}
use Rattle.fz_look.proofs.BoxParts.{lasts_all, lasts_more}
use Rattle.fz_look.proofs.boxes.sieve_of.Goals as goal

pub loop-i-preserved : goal.loop-i-preserved
loop-i-preserved c =
    let r = c.args.region.now in
    let old = c.loop-i.invariant in
    let few : r.n ≤ 9 = omega (arith, c.requires.shape, c.requires.region.same_axes) in
    record {
      same_axes = old.same_axes;
      lo = old.lo;
      hi = lasts_more r.lo r.len r.n (omega (arith, few)) (omega (arith, few)) c.loop-i.sieve.hi c.loop-i.i _ (omega (arith, c.requires.region.same_axes)) few (omega arith) old.hi;
      steps = old.steps;
    }

pub returns : goal.returns
returns c =
    let r = c.args.region.now in
    let old = c.loop-i.invariant in
    let s : Sieve = c.loop-i.sieve in
    let few : r.n ≤ 9 = omega (arith, c.requires.shape, c.requires.region.same_axes) in
    let hi = lasts_all r.lo r.len r.n (omega (arith, few)) (omega (arith, few)) s.hi c.loop-i.i (omega (arith, c.requires.region.same_axes)) old.hi in
    let all : s ≡ sieve_in r = λ i. record { n = old.same_axes i; lo = old.lo i; hi = hi i; step = old.steps i } in
    let law = c.region_law.ensures c.args.shape.now r c.requires.shape (omega arith) (omega arith) c.requires.region in
    record {
      all = all;
      sieve = subst (IsSieveOf c.args.shape.now) (sym all) law.0;
      sifts = subst (Sifts (lengths_of c.args.shape.now)) (sym all) law.1;
      lengths = ap sieve_lengths all ∙ law.2;
    }
