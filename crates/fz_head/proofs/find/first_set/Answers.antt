use Rattle.std.proofs.Common.{List, ℕ, Bool, false, sym, ap, ◌∙◌, arith}
use Rattle.std.specs.Prelude.{◌&&◌, unwrap_or}
use Rattle.fz_card.specs.Reading.{logical_of}
use Rattle.fz_card.specs.CardLists.{has_name}
use Rattle.fz_block.specs.Cards.{card_at}
use Rattle.fz_head.proofs.Positions.{position-here, position-nowhere, none-more}
use Rattle.fz_head.proofs.find.first_set.Goals as goal

-- the card has the name and the value T
abbrev says : List ℕ → List ℕ → Bool
says name card = has_name name card && unwrap_or (logical_of card) false

pub returns-then-is_set : goal.returns-then-is_set
returns-then-is_set c =
    position-here (says c.args.name.now.bytes) (card_at c.args.buf.now) c.args.cards c.loop-i.i (omega arith) (ap (says c.args.name.now.bytes) (sym c.card.ensures) ∙ (sym c.is_set.ensures ∙ c.if-is_set.true)) c.loop-i.invariant

pub loop-i-preserved : goal.loop-i-preserved
loop-i-preserved c =
    none-more (says c.args.name.now.bytes) c.args.buf.now c.loop-i.i c.loop-i.invariant (ap (says c.args.name.now.bytes) (sym c.card.ensures) ∙ (sym c.is_set.ensures ∙ c.if-is_set.false))

pub returns : goal.returns
returns c = position-nowhere (says c.args.name.now.bytes) (card_at c.args.buf.now) c.args.cards (λ k below. c.loop-i.invariant k (omega arith))
