use Rattle.fz_base.proofs.Writes.{write_inside, write_outside, write_long}
use Rattle.fz_base.proofs.laws.places_law.Goals as goal

pub returns-clause-inside : goal.returns-clause-inside
returns-clause-inside c = write_inside

pub returns-clause-outside : goal.returns-clause-outside
returns-clause-outside c = write_outside

pub returns-clause-long : goal.returns-clause-long
returns-clause-long c = write_long
