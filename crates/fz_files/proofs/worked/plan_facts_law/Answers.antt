-- The law, by computing.
use Rattle.fz_files.proofs.PlanFactLemmas.{parameters_are, wide_is, narrow_is, near_is, far_is}
use Rattle.fz_files.proofs.worked.plan_facts_law.Goals as goal

pub returns-clause-parameters : goal.returns-clause-parameters
returns-clause-parameters c = parameters_are

pub returns-clause-wide : goal.returns-clause-wide
returns-clause-wide c = wide_is

pub returns-clause-narrow : goal.returns-clause-narrow
returns-clause-narrow c = narrow_is

pub returns-clause-coded : goal.returns-clause-coded
returns-clause-coded c = near_is

pub returns-clause-stored : goal.returns-clause-stored
returns-clause-stored c = far_is
