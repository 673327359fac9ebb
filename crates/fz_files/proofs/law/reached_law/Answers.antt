-- HDU by HDU.
use Rattle.fz_files.proofs.ReachedLemmas.{reached_is, reached_within}
use Rattle.fz_files.proofs.law.reached_law.Goals as goal

pub returns : goal.returns
returns c = record { found = reached_is c.hdu_at_law.ensures.facts; within = reached_within }
