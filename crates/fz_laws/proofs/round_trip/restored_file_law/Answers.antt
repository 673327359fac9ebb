-- HDU by HDU, and in each image tile by tile.
use Rattle.fz_laws.proofs.Copies.{CopyLaws, unpack_copies}
use Rattle.fz_laws.proofs.Stood.{StoodLaws, stands_for_some}
use Rattle.fz_laws.proofs.round_trip.restored_file_law.Goals as goal

pub returns : goal.returns
returns c =
    let laws : StoodLaws =
    record {
      headers = c.walk_law.ensures.headers;
      images = c.packed_image_law.ensures.unpack;
      lengths = c.shape_law.ensures.tiles;
      whole = c.tiles_law.ensures.whole;
      tiles = c.tiles_law.ensures.joined;
    } in
    let copies : CopyLaws = record { whole = c.walk_law.ensures.whole; walk = c.hdu_list_law.ensures.walk } in
    record { some = stands_for_some laws; copies = unpack_copies copies }
