use Rattle.std.proofs.Common.{arith}
use Rattle.fz_cases_rows.proofs.lawful.is_within.Goals as goal

pub returns : goal.returns
returns c =
    λ _.
    record {
      same_axes = omega arith;
      positive = λ i h. (c.loop-i.invariant i (omega arith)).0;
      inside = λ i h. (c.loop-i.invariant i (omega arith)).1;
    }
