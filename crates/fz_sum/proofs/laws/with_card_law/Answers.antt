use Rattle.fz_sum.proofs.WithCard.{stands-there, others-stay, length-with_card}
use Rattle.fz_sum.proofs.laws.with_card_law.Goals as goal

pub returns-clause-there : goal.returns-clause-there
returns-clause-there c = stands-there

pub returns-clause-others : goal.returns-clause-others
returns-clause-others c = others-stay

pub returns-clause-long : goal.returns-clause-long
returns-clause-long c = length-with_card
