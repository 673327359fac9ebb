-- The law, by computing.
use Rattle.fz_files.proofs.SumFileLemmas.{before_is, sum_cards_are, is_packed}
use Rattle.fz_files.proofs.worked.sum_file_law.Goals as goal

pub returns-clause-before : goal.returns-clause-before
returns-clause-before c = before_is

pub returns-clause-cards : goal.returns-clause-cards
returns-clause-cards c = sum_cards_are

pub returns-clause-file : goal.returns-clause-file
returns-clause-file c = is_packed
