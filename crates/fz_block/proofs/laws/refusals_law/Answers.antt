use Rattle.fz_block.proofs.Refusals.{next_passed, next_stopped}
use Rattle.fz_block.proofs.laws.refusals_law.Goals as goal

pub returns-clause-passed : goal.returns-clause-passed
returns-clause-passed c = next_passed

pub returns-clause-stopped : goal.returns-clause-stopped
returns-clause-stopped c = next_stopped
