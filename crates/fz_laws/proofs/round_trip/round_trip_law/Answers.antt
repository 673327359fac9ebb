-- HDU by HDU, and in each image row by row.
use Rattle.fz_laws.specs.RoundTripTaken.{WayLaws}
use Rattle.fz_laws.proofs.Way.{comes_back}
use Rattle.fz_laws.proofs.round_trip.round_trip_law.Goals as goal

pub returns : goal.returns
returns c =
    let way : WayLaws = c.way_laws.ensures in
    comes_back way.passing way.tables way.walks
