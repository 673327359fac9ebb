use Rattle.std.proofs.Common.{◌≡◌, ◌+◌, ◌≤◌, ◌∙◌, ap, arith, rules, codes}
use Rattle.fz_block.specs.Hdus.{cards_of}
use Rattle.fz_head.specs.PackedChecks.{axis_checks}
use Rattle.fz_head.specs.PackedPlan.{numbered_in, size_of}
use Rattle.fz_checks.proofs.SaidAxes.{each-more, long-of, write_next}
use Rattle.fz_checks.proofs.packed_shape.axis_lengths.Goals as goal

pub returns-in_err-lengths-clause-exact : goal.returns-in_err-lengths-clause-exact
returns-in_err-lengths-clause-exact c =
    let i = c.loop-i.i in
    let stopped = c.refusals_law.ensures.stopped (axis_checks c.args.header.now.hdu (cards_of c.args.buf.now)) 1 i c.args.n (i + 1) _ (omega arith) c.loop-i-test.true c.loop-i.invariant.passed c.in_err-lengths.ensures.exact in
    search (rules, stopped)

pub loop-i-preserved : goal.loop-i-preserved
loop-i-preserved c =
    let cards = cards_of c.args.buf.now in
    let i = c.loop-i.i in
    let v = c.in_ok-lengths.field-0 in
    let long = long-of (λ k. size_of (numbered_in (codes "ZNAXIS") k cards)) i 9 c.loop-i.lengths (omega arith) c.loop-i.invariant.written in
    let place : i + 1 ≡ 1 + i = omega arith in
    record {
      passed = c.refusals_law.ensures.passed (axis_checks c.args.header.now.hdu cards) 1 i (i + 1) (omega arith) c.loop-i.invariant.passed c.in_ok-lengths.ensures.exact;
      written = write_next (λ k. size_of (numbered_in (codes "ZNAXIS") k cards)) i 9 c.loop-i.lengths v (omega arith) c.loop-i.invariant.written (c.in_ok-lengths.ensures.value ∙ ap (λ k. size_of (numbered_in (codes "ZNAXIS") k cards)) place);
      some = each-more (λ _ w. 1 ≤ w) c.loop-i.lengths i v (omega (arith, long)) c.in_ok-lengths.ensures.some c.loop-i.invariant.some;
    }
