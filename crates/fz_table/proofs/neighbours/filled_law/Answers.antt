use Rattle.fz_table.proofs.RowReads.{rows_fill}
use Rattle.fz_table.proofs.neighbours.filled_law.Goals as goal

pub returns : goal.returns
returns c = rows_fill
