-- Each is one of theirs.
use Rattle.fz_laws.specs.PatchTaken.{CutLaws, HduLaws, RowLaws}
use Rattle.fz_laws.proofs.patched.safe_laws.Goals as goal

pub returns : goal.returns
returns c =
    let hdus : HduLaws = record {
      facts = c.hdu_at_law.ensures.facts;
      blocks = c.hdu_at_law.ensures.blocks;
      header = c.found_law.ensures.header;
      checks = c.start_law.ensures.checks;
    } in
    let rows : RowLaws = record {
      taken = c.write_laws.ensures.taken;
      hdus = hdus;
      amended = c.amended_header_law.ensures;
      kept = c.kept_rows_law.ensures;
      fresh = c.new_row_law.ensures;
    } in
    let cuts : CutLaws = record { hdus = hdus; amended = c.amended_header_law.ensures } in
    record { patch = c.write_laws.ensures; rows = rows; cuts = cuts; outside = c.places_law.ensures.outside }
