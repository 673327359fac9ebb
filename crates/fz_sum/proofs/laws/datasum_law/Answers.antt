use Rattle.fz_sum.proofs.DatasumLaw.{datasum-gives}
use Rattle.fz_sum.proofs.laws.datasum_law.Goals as goal

pub returns : goal.returns
returns c = datasum-gives c.made_cards_law.ensures
