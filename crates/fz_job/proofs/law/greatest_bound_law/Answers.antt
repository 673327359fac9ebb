-- By the longest header and the largest tile.
use Rattle.fz_job.proofs.BoundLemmas.{bound_within}
use Rattle.fz_job.proofs.law.greatest_bound_law.Goals as goal

pub returns : goal.returns
returns c = bound_within c.limits_law.ensures.headers c.limits_law.ensures.tiles c.limits_law.ensures.list c.buffers_law.ensures.monotone
