-- Headers, and then what follows them.
use Rattle.fz_laws.proofs.PlaceRows.{Laws}
use Rattle.fz_laws.proofs.PlaceTouched.{lie_within}
use Rattle.fz_laws.proofs.places.job_reads_law.Goals as goal

pub returns : goal.returns
returns c =
    let laws : Laws =
    record {
      find = c.hdu_at_law.ensures.facts;
      count = c.hdu_at_law.ensures.blocks;
      each = c.hdu_at_law.ensures.walk;
      headers = c.walk_law.ensures.headers;
      last = c.found_hdus_law.ensures.last;
      unpack = c.packed_image_law.ensures.unpack;
      cut = c.packed_image_law.ensures.cut;
    } in
    lie_within laws c.reached_law.ensures.within c.table_reads_law.ensures c.cut_reads_law.ensures
