use Rattle.std.proofs.Common.{◌≡◌, false, bytes_eq, ap, sym, ◌∙◌, arith, inl, inr}
use Rattle.std.proofs.lemmas.Bool.{cases_lt}
use Rattle.fz_card.specs.Layout.{card_name}
use Rattle.fz_block.specs.Cards.{card_at}
use Rattle.fz_table.proofs.cards.first_among.Goals as goal

pub loop-i-preserved : goal.loop-i-preserved
loop-i-preserved c = λ k less. elim (cases_lt k c.loop-i.i) as (λ _. bytes_eq (card_name (card_at c.args.buf.now k)) c.args.name.now.bytes ≡ false) [
  | inl before ↦ c.loop-i.invariant k before
  | inr not_before ↦
      let here : k ≡ c.loop-i.i = omega (arith, less, not_before) in
      ap (λ i. bytes_eq (card_name (card_at c.args.buf.now i)) c.args.name.now.bytes) here ∙ (sym c.has_name.ensures ∙ c.if-has_name.false)
]
