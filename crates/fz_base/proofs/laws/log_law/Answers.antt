use Rattle.fz_base.specs.Source.{IsRangeBetween}
use Rattle.fz_base.proofs.Logs.{logs_none, logs_within_one, logs_both, logs_within_wider}
use Rattle.fz_base.proofs.Told.{logged_told}
use Rattle.fz_base.proofs.laws.log_law.Goals as goal

pub returns-clause-none : goal.returns-clause-none
returns-clause-none c = λ from to ranges. logs_none (IsRangeBetween from to) ranges

pub returns-clause-one : goal.returns-clause-one
returns-clause-one c = logs_within_one

pub returns-clause-both : goal.returns-clause-both
returns-clause-both c = λ from to old mid new first second. logs_both (IsRangeBetween from to) old mid new first second

pub returns-clause-wider : goal.returns-clause-wider
returns-clause-wider c = logs_within_wider

pub returns-clause-told : goal.returns-clause-told
returns-clause-told c = logged_told
