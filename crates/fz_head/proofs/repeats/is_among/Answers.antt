use Rattle.std.proofs.Common.{◌≡◌, List, ℕ, Bool, sym, ap, ◌∙◌, arith}
use Rattle.std.specs.Prelude.{bytes_eq}
use Rattle.fz_card.specs.Layout.{card_name}
use Rattle.fz_block.specs.Cards.{card_at}
use Rattle.fz_head.specs.declared.repeats.Once.{Once}
use Rattle.fz_head.specs.Once.{name_in}
use Rattle.fz_head.proofs.Positions.{any-here, any-nowhere, none-more}
use Rattle.fz_head.proofs.repeats.is_among.Goals as goal

-- the card counts as the name
abbrev counts : Once → List ℕ → List ℕ → Bool
counts of name card = bytes_eq (name_in of (card_name card)) (name_in of name)

-- what was compared
compared : (of : Once) (name card card' counted wanted found : List ℕ) (t : Bool) → t ≡ bytes_eq counted wanted → counted ≡ name_in of found → wanted ≡ name_in of name → found ≡ card_name card' → card' ≡ card → counts of name card ≡ t
compared of name card card' counted wanted found t e c w f d = sym (e ∙ (λ i. bytes_eq ((c ∙ ap (name_in of) (f ∙ ap card_name d)) i) (w i)))

pub returns-then-eq : goal.returns-then-eq
returns-then-eq c =
    any-here (counts c.args.of c.args.name.bytes) (card_at c.args.buf.now) c.args.cards c.loop-i.i (omega arith)
    (compared c.args.of c.args.name.bytes _ _ _ _ _ _ c.eq.ensures c.counted.ensures c.counted-wanted.ensures c.name.ensures c.card.ensures ∙ c.if-eq.true)

pub loop-i-preserved : goal.loop-i-preserved
loop-i-preserved c =
    none-more (counts c.args.of c.args.name.bytes) c.args.buf.now c.loop-i.i c.loop-i.invariant
    (compared c.args.of c.args.name.bytes _ _ _ _ _ _ c.eq.ensures c.counted.ensures c.counted-wanted.ensures c.name.ensures c.card.ensures ∙ c.if-eq.false)

pub returns : goal.returns
returns c = any-nowhere (counts c.args.of c.args.name.bytes) (card_at c.args.buf.now) c.args.cards (λ k below. c.loop-i.invariant k (omega arith))
