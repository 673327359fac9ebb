-- Its row, and then its record.
use Rattle.fz_files.proofs.TouchedLemmas.{rows_lie_within}
use Rattle.fz_files.proofs.ends.table_reads_law.Goals as goal

pub returns : goal.returns
returns c = rows_lie_within c.hdu_at_law.ensures.facts
