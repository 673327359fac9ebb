use Rattle.std.proofs.Common.{sym, ap, ◌∙◌, arith}
use Rattle.fz_block.specs.Cards.{card_at}
use Rattle.fz_checks.specs.JobChecks.{says_packed}
use Rattle.fz_checks.proofs.Positions.{position-here, position-nowhere, none-more}
use Rattle.fz_checks.proofs.job_checks.first_packed.Goals as goal

pub returns-then-says_packed : goal.returns-then-says_packed
returns-then-says_packed c =
    position-here says_packed (card_at c.args.buf.now) c.args.cards c.loop-i.i (omega arith) (ap says_packed (sym c.card.ensures) ∙ (sym c.says_packed.ensures ∙ c.if-says_packed.true)) c.loop-i.invariant

pub loop-i-preserved : goal.loop-i-preserved
loop-i-preserved c = none-more says_packed c.args.buf.now c.loop-i.i c.loop-i.invariant (ap says_packed (sym c.card.ensures) ∙ (sym c.says_packed.ensures ∙ c.if-says_packed.false))

pub returns : goal.returns
returns c = position-nowhere says_packed (card_at c.args.buf.now) c.args.cards (λ k below. c.loop-i.invariant k (omega arith))
