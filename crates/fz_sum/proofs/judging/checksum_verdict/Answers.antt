use Rattle.std.proofs.Common.{ℕ, List, eqb, sym, ap, ◌∙◌}
use Rattle.std.specs.Prelude.{Option}
use Rattle.fz_card.specs.CardLists.{cards_in, first_of_name}
use Rattle.fz_sum.specs.Cards.{checksum_name}
use Rattle.fz_sum.specs.Verdicts.{verdict_of, checksum_verdict}
use Rattle.fz_sum.proofs.VerdictLaws.{seen}
use Rattle.fz_sum.proofs.judging.checksum_verdict.Goals as goal

pub returns-clause-function : goal.returns-clause-function
unfolding checksum_verdict
returns-clause-function c = λ header payload sum.
    let cards = cards_in c.args.cards c.args.buf.now in
    let card = seen c.as_ref.result c.first_of_name-card.result (first_of_name checksum_name cards) c.as_ref.ensures.value c.first_of_name-card.ensures in
    c.verdict.ensures.function ∙ (ap (λ (found : Option (List ℕ)). verdict_of found (eqb c.args.sum 4294967295)) card ∙ ap (λ (n : ℕ). verdict_of (first_of_name checksum_name cards) (eqb n 4294967295)) sum)

pub returns-clause-value : goal.returns-clause-value
returns-clause-value c = λ header payload sum.
    (c.verdicts_law.ensures.checksum (cards_in c.args.cards c.args.buf.now) header payload c.verdict.result).1 (sym (returns-clause-function c header payload sum))
