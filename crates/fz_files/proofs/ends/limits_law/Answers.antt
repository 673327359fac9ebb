-- Header by header, and tile by tile.
use Rattle.fz_files.proofs.LimitLemmas.{largest_is_small, list_has_none, longest_is_short}
use Rattle.fz_files.proofs.ends.limits_law.Goals as goal

pub returns : goal.returns
returns c = record {
  headers = longest_is_short;
  tiles = largest_is_small c.walk_law.ensures.headers c.packed_image_law.ensures.unpack c.packed_image_law.ensures.cut;
  list = list_has_none;
}
