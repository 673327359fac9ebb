-- What divides both numbers most divides the two lengths most.
use Rattle.std.proofs.Common.{ℕ, ◌≤◌}
use Rattle.std.specs.Int.{IsGcd}
use Rattle.fz_look.proofs.boxes.common_multiple.Given as goal

abbrev pub invariant-loop-small : goal.invariant-loop-small
invariant-loop-small l = record {
  some : 1 ≤ l.great;
  same : (g : ℕ) → IsGcd l.great l.small g → IsGcd l.a l.b g;
}

abbrev pub decreases-loop-small : goal.decreases-loop-small
decreases-loop-small l = l.small
