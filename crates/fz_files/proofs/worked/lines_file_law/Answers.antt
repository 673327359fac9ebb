-- The law, by computing.
use Rattle.fz_files.proofs.LinesFileLemmas.{listed, one_is_wrong, verified}
use Rattle.fz_files.proofs.LinesPastLemmas.{lines_past_first, only_first}
use Rattle.fz_files.proofs.SumVerdictLemmas.{none_is_wrong}
use Rattle.fz_files.proofs.worked.lines_file_law.Goals as goal

pub returns-clause-verify : goal.returns-clause-verify
returns-clause-verify c = verified

pub returns-clause-list : goal.returns-clause-list
returns-clause-list c = listed

pub returns-clause-wrong : goal.returns-clause-wrong
returns-clause-wrong c = one_is_wrong

pub returns-clause-right : goal.returns-clause-right
returns-clause-right c = none_is_wrong

pub returns-clause-past : goal.returns-clause-past
returns-clause-past c = lines_past_first

pub returns-clause-front : goal.returns-clause-front
returns-clause-front c = only_first
