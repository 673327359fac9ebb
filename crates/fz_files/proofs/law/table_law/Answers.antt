-- The header, the rows and the pixels, there and back.
use Rattle.fz_files.proofs.TableImage.{TableLaws, accepted_is, table_stands, table_was_primary}
use Rattle.fz_files.proofs.TablePasses.{table_passes}
use Rattle.fz_files.proofs.TableRefused.{table_refused}
use Rattle.fz_files.proofs.law.table_law.Goals as goal

pub returns : goal.returns
returns c =
    let laws : TableLaws =
    record {
      read = c.descriptor_law.ensures;
      hold = c.tile_code_law.ensures.holds;
      fills = c.column_law.ensures;
      lens = c.plain_law.ensures.len;
      gives = c.plain_law.ensures.bytes;
      slices = c.slice_law.ensures.pixels;
      stores = c.plain_law.ensures.stored;
      at = c.tiles_law.ensures.places;
      pixels = c.tiles_law.ensures.pixels;
      some = c.tile_pixels_law.ensures.some;
      all = c.tile_pixels_law.ensures.all;
      tiles = c.shape_law.ensures.tiles;
      answer = c.image_to_pack_law.ensures.plan;
      divided = c.image_to_pack_law.ensures.divided;
      writable = c.image_to_pack_law.ensures.writable;
      header_fill = c.image_to_pack_law.ensures.header_fill;
      data_fill = c.image_to_pack_law.ensures.data_fill;
      accepted = c.accepted_law.ensures.bytes;
      back = c.there_and_back_law.ensures.sums;
      dropped = c.sum_cards_law.ensures.dropped;
      last = c.sum_cards_law.ensures.last;
      datasum = c.sum_cards_law.ensures.datasum;
      checksum = c.sum_cards_law.ensures.checksum;
      fits = c.sum_law.ensures.fits;
      whole = c.whole_cards_law.ensures.packed;
      bytes = c.cards_law.ensures.bytes;
      cards = c.cards_law.ensures.cards;
    } in
    record { passes = table_passes c.found_law.ensures.blocks laws; accepted = accepted_is laws; stands = table_stands laws; primary = table_was_primary laws; refused = table_refused laws }
