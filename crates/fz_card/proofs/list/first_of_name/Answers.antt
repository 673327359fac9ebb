use Rattle.std.proofs.Common.{sym, ap, ◌∙◌, arith}
use Rattle.std.specs.Prelude.{Some}
use Rattle.fz_card.proofs.FirstCards.{first-found, first-nowhere, none-more}
use Rattle.fz_card.proofs.list.first_of_name.Goals as goal

pub returns-then-is_named : goal.returns-then-is_named
returns-then-is_named c =
    ap Some c.card_from.ensures ∙ first-found c.args.name.bytes c.args.buf.now c.args.cards c.loop-i.i (omega arith) (sym c.is_named.ensures ∙ c.if-is_named.true) c.loop-i.invariant

pub loop-i-preserved : goal.loop-i-preserved
loop-i-preserved c = none-more c.args.name.bytes c.args.buf.now c.loop-i.i c.loop-i.invariant (sym c.is_named.ensures ∙ c.if-is_named.false)

pub returns : goal.returns
returns c = first-nowhere c.args.name.bytes c.args.buf.now c.args.cards (λ k below. c.loop-i.invariant k (omega arith))
