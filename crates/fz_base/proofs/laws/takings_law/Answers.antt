use Rattle.fz_base.proofs.Takings.{past_first, past_second, past_within}
use Rattle.fz_base.proofs.laws.takings_law.Goals as goal

pub returns-clause-first : goal.returns-clause-first
returns-clause-first c = past_first

pub returns-clause-second : goal.returns-clause-second
returns-clause-second c = past_second

pub returns-clause-within : goal.returns-clause-within
returns-clause-within c = past_within
