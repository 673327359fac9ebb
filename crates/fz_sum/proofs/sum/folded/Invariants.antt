use Rattle.std.proofs.Common.{◌≡◌}
use Rattle.fz_sum.specs.Sums.{carried}
use Rattle.fz_sum.proofs.sum.folded.Given as goal

abbrev pub invariant-loop-total : goal.invariant-loop-total
invariant-loop-total l = carried l.total ≡ carried l.fn.total

abbrev pub decreases-loop-total : goal.decreases-loop-total
decreases-loop-total l = l.total
