-- By the places of all writes.
use Rattle.fz_laws.proofs.Patching.{writes_are_in_order}
use Rattle.fz_laws.proofs.patched.writes_in_order_law.Goals as goal

pub returns : goal.returns
returns c = writes_are_in_order c.write_laws.ensures
