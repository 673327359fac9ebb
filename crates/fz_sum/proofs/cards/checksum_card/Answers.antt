use Rattle.std.proofs.Common.{sym, ap, subst, ◌∙◌}
use Rattle.fz_card.specs.Made.{IsCardText, text_card_bytes}
use Rattle.fz_sum.specs.Cards.{checksum_card}
use Rattle.fz_sum.proofs.CardTexts.{characters-card_text}
use Rattle.fz_sum.proofs.cards.checksum_card.Goals as goal

pub text_card-requires : goal.text_card-requires
text_card-requires c = subst IsCardText (sym c.characters.ensures) (characters-card_text c.args.sum)

pub returns : goal.returns
unfolding checksum_card
returns c = c.text_card.ensures ∙ ap (text_card_bytes _) c.characters.ensures
