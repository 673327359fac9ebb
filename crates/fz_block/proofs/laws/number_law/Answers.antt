use Rattle.fz_block.proofs.Numbers.{facts_renumbered, mandatory_renumbered, checks_renumbered}
use Rattle.fz_block.proofs.laws.number_law.Goals as goal

pub returns-clause-facts : goal.returns-clause-facts
returns-clause-facts c = facts_renumbered

pub returns-clause-mandatory : goal.returns-clause-mandatory
returns-clause-mandatory c = mandatory_renumbered

pub returns-clause-checks : goal.returns-clause-checks
returns-clause-checks c = checks_renumbered
