-- The law, over the definitions alone.
use Rattle.fz_rice.proofs.ReadingLemmas.{one_reading, no_beginning, some_answer}
use Rattle.fz_rice.proofs.laws.reading_law.Goals as goal

pub returns-clause-one : goal.returns-clause-one
returns-clause-one c = one_reading c.number_law.ensures

pub returns-clause-none : goal.returns-clause-none
returns-clause-none c = no_beginning c.number_law.ensures

pub returns-clause-some : goal.returns-clause-some
returns-clause-some c = some_answer c.number_law.ensures
