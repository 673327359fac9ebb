use Rattle.fz_pool.proofs.LawLemmas.{no_fault, one_lowest}
use Rattle.fz_pool.proofs.laws.lowest_fault_law.Goals as goal

pub returns : goal.returns
returns c = let l = c.one_fault_law.ensures in record { none = no_fault l.none l.one; one = one_lowest l.none l.one }
