use Rattle.std.proofs.Common.{arith}
use Rattle.fz_head.specs.PackChecks.{no_totals}
use Rattle.fz_head.proofs.PackAnswers.{length-packed_header}
use Rattle.fz_head.proofs.planning.packed_count.Goals as goal

pub returns-clause-count : goal.returns-clause-count
returns-clause-count c = λ cards count. omega (arith, count, c.parameter_count.ensures.count, c.sum_count.ensures.count, length-packed_header cards c.args.plan.now (no_totals c.args.sums))
