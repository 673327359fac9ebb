use Rattle.fz_table.proofs.Descriptors.{row_by}
use Rattle.fz_table.proofs.neighbours.row_in_law.Goals as goal

pub returns : goal.returns
returns c = row_by
