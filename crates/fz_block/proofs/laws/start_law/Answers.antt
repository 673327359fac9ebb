use Rattle.fz_block.proofs.Starts.{facts_again, checks_again}
use Rattle.fz_block.proofs.laws.start_law.Goals as goal

pub returns-clause-facts : goal.returns-clause-facts
returns-clause-facts c = facts_again

pub returns-clause-checks : goal.returns-clause-checks
returns-clause-checks c = checks_again
