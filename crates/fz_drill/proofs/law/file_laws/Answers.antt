-- Each is one of theirs.
use Rattle.fz_drill.specs.Taken.{HeaderLaws}
use Rattle.fz_drill.proofs.law.file_laws.Goals as goal

pub returns : goal.returns
returns c =
    let header : HeaderLaws = record { cards = c.card_laws.ensures; listed = c.cards_law.ensures.cards; header = c.cards_law.ensures.header } in
    record { header = header; plain_len = c.plain_law.ensures.len; blocks = c.found_law.ensures.blocks; found = c.found_law.ensures.header }
