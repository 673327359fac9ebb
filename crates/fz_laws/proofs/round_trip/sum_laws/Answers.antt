-- Each is one of theirs.
use Rattle.fz_laws.proofs.round_trip.sum_laws.Goals as goal

pub returns : goal.returns
returns c =
    record {
      cards = c.card_laws.ensures;
      gives = c.datasum_law.ensures;
      fits = c.sum_law.ensures.fits;
      ones = c.all_ones_law.ensures.parts;
      letters = c.characters_law.ensures.letters;
      data_verdict = c.verdicts_law.ensures.datasum;
      hdu_verdict = c.verdicts_law.ensures.checksum;
      datasum = c.sum_cards_law.ensures.datasum;
      checksum = c.sum_cards_law.ensures.checksum;
      blank = c.sum_cards_law.ensures.blank;
      whole = c.whole_cards_law.ensures.packed;
      said = c.cards_law.ensures.cards;
      answer = c.image_to_pack_law.ensures.plan;
      accepted = c.table_law.ensures.accepted;
    }
