use Rattle.std.proofs.Common.{sym, ap, subst, ◌∙◌, arith}
use Rattle.fz_card.specs.Made.{IsCardText, text_card_bytes}
use Rattle.fz_sum.specs.Cards.{datasum_card}
use Rattle.fz_sum.proofs.CardTexts.{decimal-card_text}
use Rattle.fz_sum.proofs.cards.datasum_card.Goals as goal

pub text_card-requires : goal.text_card-requires
text_card-requires c =
    subst IsCardText (sym (c.as_bytes.ensures.value ∙ c.format.ensures.text)) (decimal-card_text c.made_cards_law.ensures c.args.sum (omega arith))

pub returns : goal.returns
unfolding datasum_card
returns c =
    c.text_card.ensures ∙ ap (text_card_bytes _) (c.as_bytes.ensures.value ∙ c.format.ensures.text)
