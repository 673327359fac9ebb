-- HDU by HDU, and in the table of an image card by card.
use Rattle.fz_laws.specs.RoundTripTaken.{WayLaws}
use Rattle.fz_laws.proofs.Becoming.{hdus_become}
use Rattle.fz_laws.proofs.TableSums.{tables_have_sums}
use Rattle.fz_laws.proofs.round_trip.packed_hdus_law.Goals as goal

pub returns : goal.returns
returns c =
    let way : WayLaws = c.way_laws.ensures in
    record { each = hdus_become way.passing way.tables way.walks; sums = tables_have_sums c.sum_laws.ensures }
