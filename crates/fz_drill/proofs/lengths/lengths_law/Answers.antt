-- By the length of each code.
use Rattle.fz_drill.specs.Taken.{PackedLaws}
use Rattle.fz_drill.proofs.Bytes.{drill_bytes}
use Rattle.fz_drill.proofs.PackedLengths.{LengthLaws, packed_between, plain_is, stored_is}
use Rattle.fz_drill.proofs.lengths.lengths_law.Goals as goal

pub returns : goal.returns
returns c =
    let packed : PackedLaws = c.packed_laws.ensures in
    let laws : LengthLaws =
    record {
      packed = packed;
      fills = c.column_law.ensures;
      tiles = c.tiles_law.ensures.pixels;
      pixel = c.tile_pixels_law.ensures.some;
      whole = c.tile_pixels_law.ensures.whole;
      divided = c.shape_law.ensures.tiles;
      planned = c.image_to_pack_law.ensures.divided;
      writable = c.image_to_pack_law.ensures.writable;
    } in
    record {
      plain = λ rows is. plain_is packed.tables.files rows is.most;
      packed = λ rows codec is. packed_between laws rows is.some is.most codec (drill_bytes rows is.most);
      stored = λ rows is. stored_is laws rows is.some is.most (drill_bytes rows is.most);
    }
