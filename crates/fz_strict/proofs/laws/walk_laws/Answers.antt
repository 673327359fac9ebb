-- Each is one of theirs.
use Rattle.fz_strict.proofs.laws.walk_laws.Goals as goal

pub returns : goal.returns
returns c =
    record {
      headers = c.walk_law.ensures.headers;
      whole = c.walk_law.ensures.whole;
      pass = c.found_hdus_law.ensures.pass;
      parts = c.hdu_list_law.ensures.walk;
      converse = c.hdu_list_law.ensures.converse;
      judged = c.passing_law.ensures.judged;
      packed = c.packed_hdu_law.ensures.packed;
    }
