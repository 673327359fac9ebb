use Rattle.std.proofs.Common.{sym, ap, ◌∙◌, arith}
use Rattle.fz_block.specs.Cards.{card_at}
use Rattle.fz_head.specs.PackedChecks.{is_scaling}
use Rattle.fz_checks.proofs.Positions.{position-here, position-nowhere, none-more}
use Rattle.fz_checks.proofs.packed_codec.first_scaling.Goals as goal

pub returns-then-is_scaling : goal.returns-then-is_scaling
returns-then-is_scaling c =
    position-here (is_scaling c.args.columns) (card_at c.args.buf.now) c.args.cards c.loop-i.i (omega arith) (ap (is_scaling c.args.columns) (sym c.card.ensures) ∙ (sym c.is_scaling.ensures ∙ c.if-is_scaling.true)) c.loop-i.invariant

pub loop-i-preserved : goal.loop-i-preserved
loop-i-preserved c = none-more (is_scaling c.args.columns) c.args.buf.now c.loop-i.i c.loop-i.invariant (ap (is_scaling c.args.columns) (sym c.card.ensures) ∙ (sym c.is_scaling.ensures ∙ c.if-is_scaling.false))

pub returns : goal.returns
returns c = position-nowhere (is_scaling c.args.columns) (card_at c.args.buf.now) c.args.cards (λ k below. c.loop-i.invariant k (omega arith))
