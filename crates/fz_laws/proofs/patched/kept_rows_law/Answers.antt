-- By the header as it is now.
use Rattle.fz_laws.proofs.KeptRows.{kept_rows_stand}
use Rattle.fz_laws.proofs.patched.kept_rows_law.Goals as goal

pub returns : goal.returns
returns c = kept_rows_stand c.row_laws.ensures c.amended_header_law.ensures
