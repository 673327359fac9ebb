use Rattle.std.proofs.Common.{sym, ap, ◌∙◌, arith}
use Rattle.fz_block.specs.Cards.{card_at}
use Rattle.fz_head.specs.PackChecks.{is_offset}
use Rattle.fz_head.proofs.Positions.{position-here, position-nowhere, none-more}
use Rattle.fz_head.proofs.find.first_offset.Goals as goal

pub returns-then-is_offset : goal.returns-then-is_offset
returns-then-is_offset c =
    position-here is_offset (card_at c.args.buf.now) c.args.cards c.loop-i.i (omega arith) (ap is_offset (sym c.card.ensures) ∙ (sym c.is_offset.ensures ∙ c.if-is_offset.true)) c.loop-i.invariant

pub loop-i-preserved : goal.loop-i-preserved
loop-i-preserved c =
    none-more is_offset c.args.buf.now c.loop-i.i c.loop-i.invariant (ap is_offset (sym c.card.ensures) ∙ (sym c.is_offset.ensures ∙ c.if-is_offset.false))

pub returns : goal.returns
returns c = position-nowhere is_offset (card_at c.args.buf.now) c.args.cards (λ k below. c.loop-i.invariant k (omega arith))
