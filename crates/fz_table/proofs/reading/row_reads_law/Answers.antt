use Rattle.fz_table.proofs.RowReads.{reads_lie}
use Rattle.fz_table.proofs.reading.row_reads_law.Goals as goal

pub returns : goal.returns
returns c = reads_lie
