-- Tile by tile, and by the first END.
use Rattle.fz_strict.proofs.Fill.{FillLaws}
use Rattle.fz_strict.proofs.OneHdu.{HeaderLaws, ImageLaws, hdus_stand_for_one}
use Rattle.fz_strict.proofs.Packs.{PackLaws, hdus_are_decided}
use Rattle.fz_strict.specs.Taken.{WalkLaws}
use Rattle.fz_strict.proofs.Split.{one_split}
use Rattle.fz_strict.proofs.laws.one_hdu_law.Goals as goal

pub returns : goal.returns
returns c =
    let walks : WalkLaws = c.walk_laws.ensures in
    let headers : HeaderLaws = record { read = c.whole_cards_law.ensures.read; plain = c.whole_cards_law.ensures.plain; made = c.cards_law.ensures.header } in
    let images : ImageLaws = record {
      record_ = c.one_record_law.ensures;
      arrays = c.tiles_law.ensures.same;
      tiles = c.shape_law.ensures.tiles;
      images = c.packed_image_law.ensures.unpack;
      headers = headers;
    } in
    let fill : FillLaws = record { headers = headers; len = c.plain_law.ensures.len } in
    let packs : PackLaws =
    record {
      walks = walks;
      images = images;
      fill = fill;
      pixels = record {
        tiles = c.shape_law.ensures.tiles;
        len = c.plain_law.ensures.len;
        numbers = c.one_tile_law.ensures.numbers;
        places = c.tiles_law.ensures.places;
        pixels = c.plain_law.ensures.pixels;
        slices = c.slice_law.ensures.pixels;
      };
      cards = c.cards_law.ensures.cards;
      moved = c.passing_law.ensures.moved;
      numbered = c.passing_law.ensures.numbered;
    } in
    record { decided = hdus_are_decided packs; one = hdus_stand_for_one walks images; split = one_split; bytes = c.restored_bytes_law.ensures }
