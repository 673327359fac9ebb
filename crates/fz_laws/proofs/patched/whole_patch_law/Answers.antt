-- By the tiles, the walks over both files, and the cards of the checksums.
use Rattle.fz_laws.specs.PatchTaken.{SafeLaws}
use Rattle.fz_laws.proofs.EarlierRows.{EarlierLaws}
use Rattle.fz_laws.proofs.SumsWritten.{VerdictLaws}
use Rattle.fz_laws.proofs.WholeImage.{ReplaceLaws}
use Rattle.fz_laws.proofs.WholePatch.{WholeLaws, all_writes_patch}
use Rattle.fz_laws.proofs.patched.whole_patch_law.Goals as goal

pub returns : goal.returns
returns c =
    let safe : SafeLaws = c.safe_laws.ensures in
    let verdicts : VerdictLaws = record {
      cards = safe.patch.writes.cards;
      found = c.first_of_name_law.ensures.found;
      gives = c.datasum_law.ensures;
      ones = c.all_ones_law.ensures.card;
      letters = c.characters_law.ensures.letters;
      data_verdict = c.verdicts_law.ensures.datasum;
      hdu_verdict = c.verdicts_law.ensures.checksum;
      there = safe.patch.writes.places.there;
    } in
    let earlier : EarlierLaws = record { hdus = safe.rows.hdus; reads = c.table_reads_law.ensures; image = safe.patch.taken.image } in
    let replace : ReplaceLaws = record {
      places = safe.patch.writes.tiles.places;
      tiles = c.new_numbers_law.ensures.tiles;
      others = c.new_numbers_law.ensures.others;
    } in
    let whole : WholeLaws = record { safe = safe; verdicts = verdicts; earlier = earlier; replace = replace; divided = safe.patch.writes.tiles.tiles } in
    all_writes_patch whole c.new_tiles_law.ensures
