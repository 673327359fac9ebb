-- Each is one of theirs.
use Rattle.fz_laws.specs.RoundTripTaken.{PassingLaws, TableLaws, WalkLaws}
use Rattle.fz_laws.proofs.round_trip.way_laws.Goals as goal

pub returns : goal.returns
returns c =
    let passing : PassingLaws =
    record { tables = c.table_law.ensures.passes; moved = c.passing_law.ensures.moved; numbered = c.passing_law.ensures.numbered; started = c.start_law.ensures.checks } in
    let tables : TableLaws = record { accepted = c.table_law.ensures.accepted; stands = c.table_law.ensures.stands; primary = c.table_law.ensures.primary } in
    let walks : WalkLaws =
    record {
      headers = c.walk_law.ensures.headers;
      whole = c.walk_law.ensures.whole;
      pass = c.found_hdus_law.ensures.pass;
      converse = c.hdu_list_law.ensures.converse;
      walk = c.passing_law.ensures.walk;
      judged = c.passing_law.ensures.judged;
    } in
    record { passing = passing; tables = tables; walks = walks }
