-- Each law has its place.
use Rattle.fz_strict.proofs.Decided.{DecidingLaws, images_compared}
use Rattle.fz_strict.proofs.OneHdu.{HeaderLaws}
use Rattle.fz_strict.proofs.Packs.{PixelLaws}
use Rattle.fz_strict.proofs.PlainTiles.{TileLaws}
use Rattle.fz_strict.proofs.TableHeaders.{CardLaws}
use Rattle.fz_strict.proofs.image_law.image_law.Goals as goal

pub returns : goal.returns
returns c =
    let pixels : PixelLaws = record {
      tiles = c.shape_law.ensures.tiles;
      len = c.plain_law.ensures.len;
      numbers = c.one_tile_law.ensures.numbers;
      places = c.tiles_law.ensures.places;
      pixels = c.plain_law.ensures.pixels;
      slices = c.slice_law.ensures.pixels;
    } in
    let tiles : TileLaws = record { pixels = pixels; some = c.tile_pixels_law.ensures.some; most = c.tile_pixels_law.ensures.whole; fills = c.column_law.ensures } in
    let cards : CardLaws = record {
      made = c.cards_law.ensures.header;
      packed = c.whole_cards_law.ensures.packed;
      last = c.sum_cards_law.ensures.last;
      datasum = c.sum_cards_law.ensures.datasum;
      checksum = c.sum_cards_law.ensures.checksum;
      fits = c.sum_law.ensures.fits;
    } in
    let headers : HeaderLaws = record { read = c.whole_cards_law.ensures.read; plain = c.whole_cards_law.ensures.plain; made = c.cards_law.ensures.header } in
    let laws : DecidingLaws = record {
      tiles = tiles;
      cards = cards;
      headers = headers;
      again = c.cards_law.ensures.cards;
      small = c.table_law.ensures.small;
      planned = c.plan_to_pack_law.ensures.planned;
      primary = c.primary_law.ensures.planned;
      first_is = c.primary_law.ensures.facts;
    } in
    images_compared laws
