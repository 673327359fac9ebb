-- Each is one of theirs.
use Rattle.fz_laws.proofs.patched.row_laws.Goals as goal

pub returns : goal.returns
returns c =
    record {
      walk = c.hdu_at_law.ensures.walk;
      last = c.found_hdus_law.ensures.last;
      facts = c.hdu_at_law.ensures.facts;
      image = c.packed_image_law.ensures.checks;
      one = c.one_record_law.ensures;
      unrefused = c.one_fault_law.ensures.none;
      once = c.one_fault_law.ensures.one;
    }
