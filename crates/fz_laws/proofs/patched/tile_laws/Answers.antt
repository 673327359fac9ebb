-- Each is one of theirs.
use Rattle.fz_laws.specs.PatchTaken.{PlaceLaws}
use Rattle.fz_laws.proofs.patched.tile_laws.Goals as goal

pub returns : goal.returns
returns c =
    let places : PlaceLaws = record {
      inside = c.place_law.ensures.inside;
      coordinates = c.place_law.ensures.coordinates;
      numbers = c.place_law.ensures.numbers;
      order = c.place_law.ensures.order;
    } in
    record {
      hold = c.tile_code_law.ensures.holds;
      fills = c.column_law.ensures;
      lens = c.plain_law.ensures.len;
      places = places;
      tiles = c.shape_law.ensures.tiles;
      some = c.tile_pixels_law.ensures.some;
      most = c.tile_pixels_law.ensures.whole;
    }
