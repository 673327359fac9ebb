-- By what is known of the file after any of the writes of a step.
use Rattle.fz_laws.proofs.Scattered.{any_of_a_step_is_safe}
use Rattle.fz_laws.proofs.patched.safe_step_law.Goals as goal

pub returns : goal.returns
returns c = any_of_a_step_is_safe c.safe_laws.ensures
