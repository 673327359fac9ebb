-- The law, by computing.
use Rattle.fz_files.proofs.OtherFileLemmas.{other_plan_is, stands_for}
use Rattle.fz_files.proofs.worked.other_file_law.Goals as goal

pub returns-clause-plan : goal.returns-clause-plan
returns-clause-plan c = other_plan_is

pub returns-clause-restored : goal.returns-clause-restored
returns-clause-restored c = stands_for
