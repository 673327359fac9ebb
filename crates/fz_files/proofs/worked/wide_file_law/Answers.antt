-- The law, by computing.
use Rattle.fz_files.proofs.WideFileLemmas.{stands_for, wide_touched}
use Rattle.fz_files.proofs.worked.wide_file_law.Goals as goal

pub returns-clause-restored : goal.returns-clause-restored
returns-clause-restored c = stands_for

pub returns-clause-touched : goal.returns-clause-touched
returns-clause-touched c = wide_touched
