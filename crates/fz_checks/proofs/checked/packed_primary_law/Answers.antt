use Rattle.fz_checks.proofs.Restored.{answer_placed, plain_begins, unpack_placed}
use Rattle.fz_checks.proofs.checked.packed_primary_law.Goals as goal

pub returns-clause-plan : goal.returns-clause-plan
returns-clause-plan c = answer_placed

pub returns-clause-unpack : goal.returns-clause-unpack
returns-clause-unpack c = unpack_placed

pub returns-clause-begins : goal.returns-clause-begins
returns-clause-begins c = plain_begins
