use Rattle.fz_checks.proofs.Primaries.{copied_of, packable_begun, plan_answered, plan_begun, planned_of}
use Rattle.fz_checks.proofs.checked.plan_to_pack_law.Goals as goal

pub returns-clause-answer : goal.returns-clause-answer
returns-clause-answer c = plan_answered

pub returns-clause-planned : goal.returns-clause-planned
returns-clause-planned c = planned_of

pub returns-clause-copied : goal.returns-clause-copied
returns-clause-copied c = copied_of

pub returns-clause-packable : goal.returns-clause-packable
returns-clause-packable c = packable_begun

pub returns-clause-plan : goal.returns-clause-plan
returns-clause-plan c = plan_begun
