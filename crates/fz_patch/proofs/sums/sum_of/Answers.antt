-- One piece after another is read and added.
use Rattle.std.proofs.Common.{◌≡◌, ℕ, ◌+◌, ◌-◌, ◌≤◌, List, length, Option, refl, sym, ap, subst, arith, rules}
use Rattle.fz_base.specs.Source.{HoldsLength, Reads}
use Rattle.fz_sum.specs.Pieces.{Added}
use Rattle.fz_patch.proofs.Summed.{AreAdded, more_added, none_added}
use Rattle.fz_patch.proofs.sums.sum_of.Goals as goal

pub loop-at-init : goal.loop-at-init
loop-at-init g c =
    let none : c.args.start - c.args.start ≡ 0 = omega arith in
    record {
      held = refl;
      attached = refl;
      told = λ told. told;
      tally = refl;
      copy = refl;
      low = omega arith;
      high = omega (arith, c.requires.end);
      count = search rules;
      added = subst (λ k. AreAdded (g.D.Source.held c.args.store.now) c.args.start k c.new-sum.result) (sym none) (none_added (g.D.Source.held c.args.store.now) c.args.start c.new-sum.result c.new-sum.ensures);
    }

pub loop-at-preserved : goal.loop-at-preserved
loop-at-preserved g c =
    let start : ℕ = c.args.start in
    let at : ℕ = c.loop-at.at in
    let old = c.loop-at.invariant in
    let held : Option (List ℕ) = g.D.Source.held c.args.store.now in
    let n : ℕ = c.requires.within.0 in
    let count : ℕ = length c.read_at.new.into in
    let long : count ≡ c.min-count.result = search rules in
    let there : start + (at - start) ≡ at = omega (arith, old.low) in
    let more : (at - start) + count ≡ at + c.min-count.result - start = omega (arith, old.low, long) in
    let told : HoldsLength held n = g.met.D.Source.agrees c.args.store.now n c.requires.within.1 in
    let least : c.min-count.result ≤ c.args.end - at = omega (arith, c.min-count.ensures) in
    let counted : c.add.new.self.count ≡ c.loop-at.sum.count + count = ap (λ (s : Added). s.count) c.add.ensures in
    let read : Reads held at c.read_at.new.into = subst (λ (h : Option (List ℕ)). Reads h at c.read_at.new.into) old.held (search rules) in
    record {
      held = search rules;
      attached = search rules;
      told = search rules;
      tally = search rules;
      copy = search rules;
      low = omega (arith, old.low);
      high = omega arith;
      count = omega (arith, counted, long, old.count, old.low);
      added = subst (λ k. AreAdded held start k c.add.new.self) more (more_added c.sum_law.ensures.joined held n start (at - start) count c.loop-at.sum c.add.new.self c.read_at.new.into told (omega (arith, c.requires.within.2, there, long, least, c.loop-at-test.true)) refl
          (subst (λ k. Reads held k c.read_at.new.into) (sym there) read) old.added c.add.ensures);
    }
