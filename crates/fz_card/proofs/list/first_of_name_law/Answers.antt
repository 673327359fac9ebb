use Rattle.fz_card.proofs.FirstCards.{first-is, is-first, none-first, first-none}
use Rattle.fz_card.proofs.list.first_of_name_law.Goals as goal

pub returns-clause-found : goal.returns-clause-found
returns-clause-found c = λ name card cards. (first-is name card cards, is-first name card cards)

pub returns-clause-none : goal.returns-clause-none
returns-clause-none c = λ name cards. (none-first name cards, first-none name cards)
