use Rattle.fz_job.proofs.WorkBounds.{bound_grows, held_is, none_past, past_within, work_within}
use Rattle.fz_job.proofs.survey_laws.workspace_law.Goals as goal

pub returns : goal.returns
returns c = record {
  held = held_is c.sizes_law.ensures.asked c.sizes_law.ensures.same;
  bound = work_within;
  grows = bound_grows;
  within = none_past;
  past = past_within;
}
