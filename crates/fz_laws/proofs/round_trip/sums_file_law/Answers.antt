-- HDU by HDU, and in each table card by card.
use Rattle.fz_laws.specs.RoundTripTaken.{WayLaws}
use Rattle.fz_laws.proofs.SumsRight.{sums_are_right}
use Rattle.fz_laws.proofs.round_trip.sums_file_law.Goals as goal

pub returns : goal.returns
returns c =
    let way : WayLaws = c.way_laws.ensures in
    sums_are_right way.passing way.tables way.walks c.sum_laws.ensures
