use Rattle.std.proofs.Common.{sym, ap, ◌∙◌}
use Rattle.std.specs.Option.{option_copied}
use Rattle.fz_words.specs.Values.{step_in}
use Rattle.fz_words.proofs.RangeLemmas.{step-last, step-more}
use Rattle.fz_words.proofs.lists.step_in.Goals as goal

pub returns-in_default-None-clause-value : goal.returns-in_default-None-clause-value
returns-in_default-None-clause-value c =
    let last = step-last c.in-Some.text.now c.cut.result.0.now c.cut.ensures.before (sym c.cut.ensures.behind ∙ ap option_copied c.in_default-None.is-1) in
    c.length_in.ensures.value ∙ sym last ∙ ap (λ t. step_in (option_copied t)) (sym c.in-Some.is)

pub returns-in_default-Some-clause-value : goal.returns-in_default-Some-clause-value
returns-in_default-Some-clause-value c =
    let more = step-more c.in-Some.text.now _ (sym c.cut.ensures.behind ∙ ap option_copied c.in_default-Some.is-1) in
    sym more ∙ ap (λ t. step_in (option_copied t)) (sym c.in-Some.is)
