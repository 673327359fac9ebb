use Rattle.fz_grid.proofs.CommonLemmas.{common_pixels, common_some}
use Rattle.fz_grid.proofs.law.overlap_law.Goals as goal

pub returns-clause-pixels : goal.returns-clause-pixels
returns-clause-pixels c = common_pixels

pub returns-clause-some : goal.returns-clause-some
returns-clause-some c = common_some
