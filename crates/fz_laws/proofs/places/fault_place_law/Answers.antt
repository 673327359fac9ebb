-- Place by place.
use Rattle.fz_laws.proofs.PlaceFaults.{bytes_lie, cards_lie, retile_faults, rows_lie}
use Rattle.fz_laws.proofs.PlaceRows.{Laws}
use Rattle.fz_laws.proofs.places.fault_place_law.Goals as goal

pub returns : goal.returns
returns c =
    let laws : Laws =
    record {
      find = c.hdu_at_law.ensures.facts;
      count = c.hdu_at_law.ensures.blocks;
      each = c.hdu_at_law.ensures.walk;
      headers = c.walk_law.ensures.headers;
      last = c.found_hdus_law.ensures.last;
      unpack = c.packed_image_law.ensures.unpack;
      cut = c.packed_image_law.ensures.cut;
    } in
    record { byte = bytes_lie laws; card = cards_lie laws c.walk_end_law.ensures; row = rows_lie laws c.walk_end_law.ensures; retile = retile_faults }
