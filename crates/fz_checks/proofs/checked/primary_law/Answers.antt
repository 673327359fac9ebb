use Rattle.fz_checks.proofs.Primaries.{first_by_facts, only_first, primary_planned}
use Rattle.fz_checks.proofs.checked.primary_law.Goals as goal

pub returns-clause-sort : goal.returns-clause-sort
returns-clause-sort c = only_first

pub returns-clause-facts : goal.returns-clause-facts
returns-clause-facts c = first_by_facts

pub returns-clause-planned : goal.returns-clause-planned
returns-clause-planned c = primary_planned
