use Rattle.fz_rice.proofs.LawLemmas.{one_code_is}
use Rattle.fz_rice.proofs.laws.one_code_law.Goals as goal

pub returns : goal.returns
returns c = one_code_is c.number_law.ensures
