use Rattle.std.proofs.Common.{Bool, cond, ap, ◌∙◌}
use Rattle.std.specs.Borrow.{Bor}
use Rattle.std.specs.Option.{option_map}
use Rattle.fz_card.specs.declared.card.Card.{Card}
use Rattle.fz_sum.specs.declared.verdicts.Verdict.TheVariants.{Absent, Right, Wrong}
use Rattle.fz_sum.specs.Verdicts.{verdict_of}
use Rattle.fz_sum.proofs.VerdictLemmas.{verdict-from}
use Rattle.fz_sum.proofs.judging.verdict.Goals as goal

pub returns-clause-function : goal.returns-clause-function
unfolding verdict_of
returns-clause-function c = c.judged.ensures ∙ ap (λ (told : Bool). cond told (cond c.args.right Right Wrong) Absent) c.is_told.ensures

pub returns-clause-value : goal.returns-clause-value
returns-clause-value c =
    verdict-from c.text_law.ensures.function (option_map (λ (b : Bor Card). b.now.bytes) c.args.card) c.args.right _ (returns-clause-function c)
