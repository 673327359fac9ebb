use Rattle.fz_base.proofs.Ranges.{some_lie, all_lie, within_lie, join}
use Rattle.fz_base.proofs.laws.ranges_law.Goals as goal

pub returns-clause-some : goal.returns-clause-some
returns-clause-some c = some_lie

pub returns-clause-all : goal.returns-clause-all
returns-clause-all c = all_lie

pub returns-clause-join : goal.returns-clause-join
returns-clause-join c = join

pub returns-clause-within : goal.returns-clause-within
returns-clause-within c = within_lie
