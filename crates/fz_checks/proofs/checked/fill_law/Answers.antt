use Rattle.fz_checks.proofs.Fills.{blank-fill, zero-fill}
use Rattle.fz_checks.proofs.checked.fill_law.Goals as goal

pub returns-clause-header : goal.returns-clause-header
returns-clause-header c = blank-fill

pub returns-clause-data : goal.returns-clause-data
returns-clause-data c = zero-fill
