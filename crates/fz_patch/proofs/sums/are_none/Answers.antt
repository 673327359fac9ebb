-- By the first, and then by the second.
use Rattle.fz_patch.proofs.SumCards.{none_then}
use Rattle.fz_patch.proofs.sums.are_none.Goals as goal

pub returns-in-None : goal.returns-in-None
returns-in-None c = none_then c.args.datasum c.args.checksum c.is_none.result c.in-None.is c.is_none.ensures
