use Rattle.fz_table.proofs.Descriptors.{read_again}
use Rattle.fz_table.proofs.rows.descriptor_law.Goals as goal

pub returns : goal.returns
returns c = read_again
