-- Row by row.
use Rattle.fz_laws.proofs.OnePatch.{has_one_fault, has_one_patch, has_writes_or_fault}
use Rattle.fz_laws.proofs.patched.one_patch_law.Goals as goal

pub returns : goal.returns
returns c = record { one = has_one_patch c.row_laws.ensures; fault = has_one_fault c.row_laws.ensures; writes = has_writes_or_fault }
