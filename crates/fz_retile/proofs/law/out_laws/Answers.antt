-- Each is one of theirs.
use Rattle.fz_laws.specs.OutputsTaken.{MadeLaws, ValueLaws}
use Rattle.fz_retile.proofs.law.out_laws.Goals as goal

pub returns : goal.returns
returns c =
    let made : MadeLaws = record { cards = c.cards_law.ensures.cards; header = c.cards_law.ensures.header } in
    let values : ValueLaws = record { cards = c.card_laws.ensures; value = c.renamed_value_law.ensures; made = made } in
    record {
      values = values;
      moved = c.passing_law.ensures.moved;
      numbered = c.passing_law.ensures.numbered;
      read = c.whole_cards_law.ensures.read;
      plain = c.whole_cards_law.ensures.plain;
      fits = c.sizes_law.ensures.plain;
      begins = c.packed_primary_law.ensures.begins;
      images = c.packed_image_law.ensures.unpack;
      len = c.plain_law.ensures.len;
    }
