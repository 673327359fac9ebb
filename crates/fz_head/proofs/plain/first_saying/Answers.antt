use Rattle.std.proofs.Common.{sym, ap, ◌∙◌, arith}
use Rattle.fz_block.specs.Cards.{card_at}
use Rattle.fz_head.specs.PlainHeader.{says_what}
use Rattle.fz_head.proofs.Positions.{position-here, position-nowhere, none-more}
use Rattle.fz_head.proofs.plain.first_saying.Goals as goal

pub returns-then-says_what-clause-index : goal.returns-then-says_what-clause-index
returns-then-says_what-clause-index c =
    position-here says_what (card_at c.args.buf.now) c.args.cards c.loop-i.i (omega arith) (ap says_what (sym c.card.ensures) ∙ (sym c.says_what.ensures ∙ c.if-says_what.true)) c.loop-i.invariant

pub loop-i-preserved : goal.loop-i-preserved
loop-i-preserved c = none-more says_what c.args.buf.now c.loop-i.i c.loop-i.invariant (ap says_what (sym c.card.ensures) ∙ (sym c.says_what.ensures ∙ c.if-says_what.false))

pub returns-clause-index : goal.returns-clause-index
returns-clause-index c = position-nowhere says_what (card_at c.args.buf.now) c.args.cards (λ k below. c.loop-i.invariant k (omega arith))
