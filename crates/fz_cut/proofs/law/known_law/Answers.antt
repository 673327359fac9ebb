-- Header by header.
use Rattle.fz_cut.proofs.Known.{TheLaws, is_known, is_refused}
use Rattle.fz_cut.proofs.law.known_law.Goals as goal

pub returns : goal.returns
returns c =
    let laws : TheLaws =
    record {
      headers = c.walk_law.ensures.headers;
      last = c.found_hdus_law.ensures.last;
      found = c.hdu_at_law.ensures.walk;
      facts = c.hdu_at_law.ensures.facts;
      blocks = c.hdu_at_law.ensures.blocks;
      image = c.packed_image_law.ensures.cut;
      tiles = c.shape_law.ensures.tiles;
      whole = c.tile_pixels_law.ensures.whole;
    } in
    record {
      know = λ want sieve file s is. is_known laws want sieve file s is;
      refuse = λ want sieve file x is. is_refused laws want sieve file x is;
    }
