use Rattle.fz_rice.proofs.LawLemmas.{round_trip_is}
use Rattle.fz_rice.proofs.laws.round_trip_law.Goals as goal

pub returns : goal.returns
returns c = round_trip_is c.number_law.ensures
