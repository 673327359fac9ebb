use Rattle.fz_job.proofs.WorkTakings.{fill_takes}
use Rattle.fz_job.proofs.workspace.fill.Goals as goal

pub returns-clause-takings : goal.returns-clause-takings
returns-clause-takings c = fill_takes _ _ _ _ c.fill.result c.fill.ensures.taken c.fill.ensures.refused
