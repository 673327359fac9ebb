-- By the HDUs of both files, one after another.
use Rattle.fz_retile.proofs.LongestHeader.{LongestTaken, WalkTaken, bounds_are, no_header_longer}
use Rattle.fz_retile.proofs.law.longest_header_law.Goals as goal

pub returns : goal.returns
returns c =
    let walks : WalkTaken =
    record {
      headers = c.walk_law.ensures.headers;
      pass = c.found_hdus_law.ensures.pass;
      found = c.hdu_at_law.ensures.walk;
      blocks = c.hdu_at_law.ensures.blocks;
      all = c.hdu_list_law.ensures.headers;
      one = c.hdu_list_law.ensures.converse;
    } in
    let laws : LongestTaken =
    record {
      out = c.out_laws.ensures;
      walks = walks;
      reached = c.reached_law.ensures.found;
      faults = c.first_fault_law.ensures.some;
      stands = c.restored_law.ensures.stands;
      restored = c.restored_output_law.ensures.found;
    } in
    record { longest = no_header_longer laws; bounds = bounds_are laws }
