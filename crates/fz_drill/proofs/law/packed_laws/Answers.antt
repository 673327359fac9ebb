-- Each is one of theirs.
use Rattle.fz_block.specs.Checks.{unjudged}
use Rattle.fz_drill.specs.Taken.{TableLaws}
use Rattle.fz_drill.proofs.law.packed_laws.Goals as goal

pub returns : goal.returns
returns c =
    let tables : TableLaws = record { files = c.file_laws.ensures; accepted = c.accepted_law.ensures.bytes; whole = c.whole_cards_law.ensures.packed } in
    record {
      tables = tables;
      passes = c.table_law.ensures.passes;
      started = c.start_law.ensures.checks;
      walk = c.passing_law.ensures.walk;
      headers = c.hdu_list_law.ensures.headers;
      found = c.hdu_at_law.ensures.walk unjudged;
      blocks = c.hdu_at_law.ensures.blocks;
      axes = c.hdu_at_law.ensures.axes;
    }
