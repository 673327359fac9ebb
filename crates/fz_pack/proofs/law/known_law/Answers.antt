-- Header by header.
use Rattle.fz_pack.proofs.Known.{TheLaws, is_known, is_refused}
use Rattle.fz_pack.proofs.law.known_law.Goals as goal

pub returns : goal.returns
returns c =
    let laws : TheLaws =
    record {
      headers = c.walk_law.ensures.headers;
      whole = c.walk_law.ensures.whole;
      pass = c.found_hdus_law.ensures.pass;
      parts = c.hdu_list_law.ensures.walk;
      blocks = c.found_law.ensures.blocks;
      places = c.hdu_law.ensures.places;
    } in
    record {
      know = λ o file s is. is_known o file laws s is;
      refuse = λ o file x is. is_refused o file x is;
    }
