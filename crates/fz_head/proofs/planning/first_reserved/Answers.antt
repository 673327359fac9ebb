use Rattle.std.proofs.Common.{◌≡◌, ℕ, List, Bool, sym, ◌∙◌, arith}
use Rattle.fz_block.specs.Cards.{card_at}
use Rattle.fz_head.specs.Packable.{is_primary}
use Rattle.fz_head.specs.PackChecks.{is_reserved_card}
use Rattle.fz_head.proofs.Positions.{position-here, position-nowhere, none-more}
use Rattle.fz_head.proofs.planning.first_reserved.Goals as goal

-- what was tested
tested : (p p' : Bool) (n : ℕ) (card card' : List ℕ) (t : Bool) → t ≡ is_reserved_card p' n card' → p' ≡ p → card' ≡ card → is_reserved_card p n card ≡ t
tested p p' n card card' t e same at = sym (e ∙ λ i. is_reserved_card (same i) n (at i))

pub returns-then-is_reserved_card : goal.returns-then-is_reserved_card
returns-then-is_reserved_card c =
    let h = c.args.header.now in
    position-here (is_reserved_card (is_primary h.sort) h.axes.n) (card_at c.args.buf.now) h.cards c.loop-i.i (omega arith)
    (tested (is_primary h.sort) _ h.axes.n _ _ _ c.is_reserved_card.ensures c.is_primary-primary.ensures c.card.ensures ∙ c.if-is_reserved_card.true) c.loop-i.invariant

pub loop-i-preserved : goal.loop-i-preserved
loop-i-preserved c =
    let h = c.args.header.now in
    none-more (is_reserved_card (is_primary h.sort) h.axes.n) c.args.buf.now c.loop-i.i c.loop-i.invariant
    (tested (is_primary h.sort) _ h.axes.n _ _ _ c.is_reserved_card.ensures c.is_primary-primary.ensures c.card.ensures ∙ c.if-is_reserved_card.false)

pub returns : goal.returns
returns c = let h = c.args.header.now in position-nowhere (is_reserved_card (is_primary h.sort) h.axes.n) (card_at c.args.buf.now) h.cards (λ k below. c.loop-i.invariant k (omega arith))
