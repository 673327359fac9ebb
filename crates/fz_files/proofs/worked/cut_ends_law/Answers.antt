-- The law, by computing.
use Rattle.fz_files.proofs.CutEndsLemmas.{longer_touched, unfinished_touched, outside_first, missing_first, record_touched}
use Rattle.fz_files.proofs.worked.cut_ends_law.Goals as goal

pub returns-clause-stops : goal.returns-clause-stops
returns-clause-stops c = longer_touched

pub returns-clause-refused : goal.returns-clause-refused
returns-clause-refused c = unfinished_touched

pub returns-clause-outside : goal.returns-clause-outside
returns-clause-outside c = outside_first

pub returns-clause-missing : goal.returns-clause-missing
returns-clause-missing c = missing_first

pub returns-clause-long_record : goal.returns-clause-long_record
returns-clause-long_record c = record_touched
