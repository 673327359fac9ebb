-- The least number among the cards so far.
use Rattle.std.proofs.Common.{◌≡◌}
use Rattle.fz_head.specs.PackedPlan.{parameter_number}
use Rattle.fz_head.specs.Written.{first_cards}
use Rattle.fz_checks.proofs.LeastNumbers.{IsFew}
use Rattle.fz_checks.proofs.packed_rice.least_number.Given as goal

abbrev pub invariant-loop-i : goal.invariant-loop-i
invariant-loop-i l = record {
  number : l.best ≡ parameter_number l.text (first_cards l.buf l.i);
  few : IsFew l.best;
}
