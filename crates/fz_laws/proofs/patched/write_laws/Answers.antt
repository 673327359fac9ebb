-- Each is one of theirs.
use Rattle.fz_laws.specs.PatchTaken.{CardPlaceLaws, WriteLaws}
use Rattle.fz_laws.proofs.patched.write_laws.Goals as goal

pub returns : goal.returns
returns c =
    let cards : CardPlaceLaws = record {
      there = c.with_card_law.ensures.there;
      others = c.with_card_law.ensures.others;
      long = c.with_card_law.ensures.long;
    } in
    let writes : WriteLaws = record {
      tiles = c.tile_laws.ensures;
      cards = c.card_laws.ensures;
      first = c.cards_law.ensures.first;
      places = cards;
      datasum = c.sum_cards_law.ensures.datasum;
      checksum = c.sum_cards_law.ensures.checksum;
      fits = c.sum_law.ensures.fits;
    } in
    record { taken = c.row_laws.ensures; writes = writes; given = c.new_numbers_law.ensures.target }
