use Rattle.std.proofs.Common.{arith}
use Rattle.fz_cases_rows.proofs.SmallLemmas.{small_product}
use Rattle.fz_cases_rows.proofs.grid.is_small.Goals as goal

pub returns-clause-shape : goal.returns-clause-shape
returns-clause-shape c =
    λ _.
    record {
      some = omega arith;
      axes = omega arith;
      positive = λ i h. (c.loop-i.invariant i (omega arith)).0;
      pixels = omega (arith, small_product c.args.shape.now.len c.args.shape.now.n (omega arith) (λ i h. (c.loop-i.invariant i (omega arith)).1));
    }

pub returns-clause-small : goal.returns-clause-small
returns-clause-small c = λ _ i h. (c.loop-i.invariant i (omega arith)).1
