-- HDU by HDU.
use Rattle.fz_files.proofs.EndLemmas.{walks_end}
use Rattle.fz_files.proofs.ends.walk_end_law.Goals as goal

pub returns : goal.returns
returns c = walks_end c.hdu_at_law.ensures.facts
