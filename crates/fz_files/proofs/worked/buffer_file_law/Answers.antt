-- The law, by computing.
use Rattle.fz_files.proofs.BufferFileLemmas.{bound_is, takings_are}
use Rattle.fz_files.proofs.worked.buffer_file_law.Goals as goal

pub returns-clause-bound : goal.returns-clause-bound
returns-clause-bound c = bound_is

pub returns-clause-takings : goal.returns-clause-takings
returns-clause-takings c = takings_are
