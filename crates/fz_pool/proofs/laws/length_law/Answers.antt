use Rattle.fz_pool.proofs.LawLemmas.{length_told}
use Rattle.fz_pool.proofs.laws.length_law.Goals as goal

pub returns : goal.returns
returns c = length_told c.column_law.ensures
