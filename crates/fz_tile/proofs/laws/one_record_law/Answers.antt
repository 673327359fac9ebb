-- Plain bytes are those of one list alone, and so are codes.
use Rattle.fz_tile.proofs.RecordLemmas.{one_record}
use Rattle.fz_tile.proofs.laws.one_record_law.Goals as goal

pub returns : goal.returns
returns c = one_record c.reading_law.ensures.one
