use Rattle.fz_sum.specs.Cards.{blank_checksum_card}
use Rattle.fz_sum.proofs.cards.blank_checksum_card.Goals as goal

pub returns : goal.returns
unfolding blank_checksum_card
returns c = c.text_card.ensures
