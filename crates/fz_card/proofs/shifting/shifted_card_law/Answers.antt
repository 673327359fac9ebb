-- By the bounds of a decimal and of its text.
use Rattle.fz_card.proofs.ShiftedCards.{shifted_is_card}
use Rattle.fz_card.proofs.shifting.shifted_card_law.Goals as goal

pub returns : goal.returns
returns c = shifted_is_card c.decimal_law.ensures c.made_cards_law.ensures
