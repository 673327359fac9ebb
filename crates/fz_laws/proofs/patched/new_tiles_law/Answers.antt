-- By the rows, each of which is written once.
use Rattle.fz_laws.proofs.AllWritten.{all_writes_tile}
use Rattle.fz_laws.proofs.patched.new_tiles_law.Goals as goal

pub returns : goal.returns
returns c = all_writes_tile c.safe_laws.ensures
