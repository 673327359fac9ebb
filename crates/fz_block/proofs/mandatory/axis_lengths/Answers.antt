use Rattle.std.proofs.Common.{◌≡◌, ◌+◌, ◌∙◌, ap, arith, rules}
use Rattle.fz_block.specs.Hdus.{size_at}
use Rattle.fz_block.specs.Mandatory.{axis_checks}
use Rattle.fz_block.proofs.AxisLists.{write_next}
use Rattle.fz_block.proofs.Refusals.{next_passed, next_stopped}
use Rattle.fz_block.proofs.mandatory.axis_lengths.Goals as goal

pub returns-in_err-lengths-clause-exact : goal.returns-in_err-lengths-clause-exact
returns-in_err-lengths-clause-exact c =
    let h = c.args.buf.now in
    let i = c.loop-i.i in
    let stopped = next_stopped (axis_checks c.args.hdu h) 1 i c.args.n (i + 1) _ (omega arith) c.loop-i-test.true c.loop-i.invariant.passed c.in_err-lengths.ensures.exact in
    search (rules, stopped)

pub loop-i-preserved : goal.loop-i-preserved
loop-i-preserved c =
    let h = c.args.buf.now in
    let i = c.loop-i.i in
    record {
      passed = next_passed (axis_checks c.args.hdu h) 1 i (i + 1) (omega arith) c.loop-i.invariant.passed c.in_ok-lengths.ensures.exact;
      written = write_next (size_at h) 3 i 9 c.loop-i.lengths c.in_ok-lengths.field-0 (omega arith) c.loop-i.invariant.written (let place : 2 + (i + 1) ≡ 3 + i = omega arith in c.in_ok-lengths.ensures.value ∙ ap (size_at h) place);
    }
