use Rattle.std.proofs.Common.{sym, ap, ◌∙◌}
use Rattle.std.specs.Option.{option_and_then, option_copied, option_map}
use Rattle.fz_words.specs.Seen.{seen_range}
use Rattle.fz_words.proofs.RangeLemmas.{in-order, ordered, out-of-order, range-short, range-no-lo, range-no-hi, range-read}
use Rattle.fz_words.proofs.lists.range_in.Goals as goal

pub returns-in_err-others-clause-value : goal.returns-in_err-others-clause-value
returns-in_err-others-clause-value c =
    ap (option_map seen_range) c.from_residual.ensures ∙ sym (range-short c.args.text.now (sym c.cut.ensures.behind ∙ ap option_copied c.in_err-others.was))

pub returns-in_err-lo-clause-value : goal.returns-in_err-lo-clause-value
returns-in_err-lo-clause-value c =
    let others = sym (ap option_copied c.in_ok-others.was) ∙ c.cut.ensures.behind in
    let none = sym c.length_in.ensures.value ∙ c.in_err-lo.was in
    ap (option_map seen_range) c.from_residual-in_err-lo.ensures ∙ sym (range-no-lo c.args.text.now c.cut.result.0.now c.in_ok-others.field-0.now c.cut-2.result.0.now _ c.cut.ensures.before others c.cut-2.ensures.before c.cut-2.ensures.behind none)

pub returns-in_err-hi-clause-value : goal.returns-in_err-hi-clause-value
returns-in_err-hi-clause-value c =
    let others = sym (ap option_copied c.in_ok-others.was) ∙ c.cut.ensures.behind in
    let lo = sym c.length_in.ensures.value ∙ c.in_ok-lo.was in
    let none = sym c.length_in-2.ensures.value ∙ c.in_err-hi.was in
    ap (option_map seen_range) c.from_residual-in_err-hi.ensures ∙ sym (range-no-hi c.args.text.now c.cut.result.0.now c.in_ok-others.field-0.now c.cut-2.result.0.now _ c.in_ok-lo.lo c.cut.ensures.before others c.cut-2.ensures.before c.cut-2.ensures.behind lo none)

pub returns-in_err-step-clause-value : goal.returns-in_err-step-clause-value
returns-in_err-step-clause-value c =
    let others = sym (ap option_copied c.in_ok-others.was) ∙ c.cut.ensures.behind in
    let lo = sym c.length_in.ensures.value ∙ c.in_ok-lo.was in
    let hi = sym c.length_in-2.ensures.value ∙ c.in_ok-hi.was in
    let none = sym c.step_in.ensures.value ∙ c.in_err-step.was in
    let read = range-read c.args.text.now c.cut.result.0.now c.in_ok-others.field-0.now c.cut-2.result.0.now _ c.in_ok-lo.lo c.in_ok-hi.hi c.cut.ensures.before others c.cut-2.ensures.before c.cut-2.ensures.behind lo hi in
    ap (option_map seen_range) c.from_residual-in_err-step.ensures ∙ sym (read ∙ ap (option_and_then (ordered c.in_ok-lo.lo c.in_ok-hi.hi)) none)

pub returns-then-lo-hi-clause-value : goal.returns-then-lo-hi-clause-value
returns-then-lo-hi-clause-value c =
    let others = sym (ap option_copied c.in_ok-others.was) ∙ c.cut.ensures.behind in
    let lo = sym c.length_in.ensures.value ∙ c.in_ok-lo.was in
    let hi = sym c.length_in-2.ensures.value ∙ c.in_ok-hi.was in
    let step = sym c.step_in.ensures.value ∙ c.in_ok-step.was in
    let read = range-read c.args.text.now c.cut.result.0.now c.in_ok-others.field-0.now c.cut-2.result.0.now _ c.in_ok-lo.lo c.in_ok-hi.hi c.cut.ensures.before others c.cut-2.ensures.before c.cut-2.ensures.behind lo hi in
    sym (read ∙ ap (option_and_then (ordered c.in_ok-lo.lo c.in_ok-hi.hi)) step ∙ in-order c.in_ok-lo.lo c.in_ok-hi.hi c.in_ok-step.step c.if-lo-hi.true)

pub returns-else-lo-hi-clause-value : goal.returns-else-lo-hi-clause-value
returns-else-lo-hi-clause-value c =
    let others = sym (ap option_copied c.in_ok-others.was) ∙ c.cut.ensures.behind in
    let lo = sym c.length_in.ensures.value ∙ c.in_ok-lo.was in
    let hi = sym c.length_in-2.ensures.value ∙ c.in_ok-hi.was in
    let step = sym c.step_in.ensures.value ∙ c.in_ok-step.was in
    let read = range-read c.args.text.now c.cut.result.0.now c.in_ok-others.field-0.now c.cut-2.result.0.now _ c.in_ok-lo.lo c.in_ok-hi.hi c.cut.ensures.before others c.cut-2.ensures.before c.cut-2.ensures.behind lo hi in
    sym (read ∙ ap (option_and_then (ordered c.in_ok-lo.lo c.in_ok-hi.hi)) step ∙ out-of-order c.in_ok-lo.lo c.in_ok-hi.hi c.in_ok-step.step c.if-lo-hi.false)
