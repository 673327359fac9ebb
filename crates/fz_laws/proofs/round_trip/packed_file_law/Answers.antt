-- By the list of the file's HDUs.
use Rattle.fz_laws.specs.RoundTripTaken.{WayLaws}
use Rattle.fz_laws.proofs.Copies.{pack_copies, workers_do_not_matter}
use Rattle.fz_laws.proofs.Once.{ListLaws, has_packed, packed_once}
use Rattle.fz_laws.proofs.Way.{packed_is_found}
use Rattle.fz_laws.proofs.round_trip.packed_file_law.Goals as goal

pub returns : goal.returns
returns c =
    let way : WayLaws = c.way_laws.ensures in
    let laws : ListLaws = record { whole = way.walks.whole; walk = c.hdu_list_law.ensures.walk; one = c.hdu_list_law.ensures.one } in
    record {
      some = has_packed laws;
      one = packed_once laws;
      workers = workers_do_not_matter;
      copies = pack_copies;
      found = packed_is_found way.passing way.tables way.walks;
    }
