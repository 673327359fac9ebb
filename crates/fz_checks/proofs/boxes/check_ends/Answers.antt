use Rattle.std.proofs.Common.{◌≡◌, ℕ, ◌+◌, ◌≤◌, [], ◌∷◌, ◌∙◌, ap, codes, sym, subst, arith, rules, get_or, inl, inr}
use Rattle.std.proofs.lemmas.List.FromFn.{length-map-range_with_len}
use Rattle.std.proofs.lemmas.Bool.{cases_eq}
use Rattle.fz_block.specs.Hdus.{cards_of}
use Rattle.fz_block.specs.declared.axes.Axes.{Axes}
use Rattle.fz_checks.specs.JobChecks.{axis_inside}
use Rattle.fz_head.specs.PackedPlan.{numbered_in, size_of}
use Rattle.fz_head.specs.PlainHeader.{axis_count}
use Rattle.fz_checks.proofs.SaidAxes.{entry-of}
use Rattle.fz_checks.proofs.boxes.check_ends.Goals as goal

pub check_end-requires-clause-axis : goal.check_end-requires-clause-axis
check_end-requires-clause-axis c =
    let cards = cards_of c.args.buf.now in
    let size = λ (k : ℕ). size_of (numbered_in (codes "ZNAXIS") k cards) in
    let i = c.loop-i.i in
    let count : c.args.shape.now.n ≡ axis_count cards = ap (λ (a : Axes). a.n) c.requires.shape ∙ length-map-range_with_len size 1 (axis_count cards) in
    ap (λ (a : Axes). get_or a.len i 0) c.requires.shape ∙ entry-of size (axis_count cards) i (i + 1) _ (omega arith) (omega arith)

pub returns-in_err-check_end-clause-exact : goal.returns-in_err-check_end-clause-exact
returns-in_err-check_end-clause-exact c =
    let i = c.loop-i.i in
    let stopped = c.refusals_law.ensures.stopped (λ k. axis_inside c.args.header.now.hdu (cards_of c.args.buf.now) c.args.region.now k ∷ []) 0 i c.args.shape.now.n i _ (omega arith) (omega arith) c.loop-i.invariant.passed c.in_err-check_end.ensures.exact in
    search (rules, stopped)

pub loop-i-preserved : goal.loop-i-preserved
loop-i-preserved c =
    let i = c.loop-i.i in
    record {
      passed = c.refusals_law.ensures.passed (λ k. axis_inside c.args.header.now.hdu (cards_of c.args.buf.now) c.args.region.now k ∷ []) 0 i i (omega arith) c.loop-i.invariant.passed c.in_ok-check_end.ensures.exact;
      inside = λ k below. elim (cases_eq k i) [
        | inl same ↦ subst (λ j. get_or c.args.region.now.lo j 0 + get_or c.args.region.now.len j 0 ≤ get_or c.args.shape.now.len j 0) (sym same) c.in_ok-check_end.ensures.inside
        | inr other ↦ c.loop-i.invariant.inside k (omega arith)
      ];
    }
