use Rattle.fz_block.proofs.Firsts.{first_found, first_nowhere}
use Rattle.fz_block.proofs.laws.first_card_law.Goals as goal

pub returns-clause-found : goal.returns-clause-found
returns-clause-found c = first_found

pub returns-clause-none : goal.returns-clause-none
returns-clause-none c = first_nowhere
