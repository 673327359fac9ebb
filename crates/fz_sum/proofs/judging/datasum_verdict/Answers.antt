use Rattle.std.proofs.Common.{ℕ, List, sym, ap, ◌∙◌}
use Rattle.std.specs.Prelude.{Option}
use Rattle.std.specs.Option.{option_and_then}
use Rattle.fz_card.specs.CardLists.{cards_in, first_of_name}
use Rattle.fz_sum.specs.Cards.{datasum_name}
use Rattle.fz_sum.specs.Texts.{sum_of_card}
use Rattle.fz_sum.specs.Verdicts.{is_sum, verdict_of, datasum_verdict}
use Rattle.fz_sum.proofs.VerdictLaws.{seen}
use Rattle.fz_sum.proofs.judging.datasum_verdict.Goals as goal

pub returns-clause-function : goal.returns-clause-function
unfolding datasum_verdict
returns-clause-function c = λ payload sum.
    let first = first_of_name datasum_name (cards_in c.args.cards c.args.buf.now) in
    let card = seen c.as_ref-2.result c.first_of_name-card.result first c.as_ref-2.ensures.value c.first_of_name-card.ensures in
    let judged = seen c.as_ref.result c.first_of_name-card.result first c.as_ref.ensures.value c.first_of_name-card.ensures in
    let right = c.gives.ensures ∙ (ap (λ (found : Option (List ℕ)). is_sum (option_and_then sum_of_card found) c.args.sum) card ∙ ap (is_sum (option_and_then sum_of_card first)) sum) in
    c.verdict.ensures.function ∙ (ap (λ (found : Option (List ℕ)). verdict_of found c.gives.result) judged ∙ ap (verdict_of first) right)

pub returns-clause-value : goal.returns-clause-value
returns-clause-value c = λ payload sum.
    (c.verdicts_law.ensures.datasum (cards_in c.args.cards c.args.buf.now) payload c.verdict.result).1 (sym (returns-clause-function c payload sum))
