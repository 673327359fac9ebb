-- By the law of the checks.
use Rattle.fz_unpack.proofs.Primaries.{begins, behind}
use Rattle.fz_unpack.proofs.law.primary_law.Goals as goal

pub returns-clause-behind : goal.returns-clause-behind
returns-clause-behind c = λ h header after_empty is. behind h header after_empty is c.packed_primary_law.ensures.unpack

pub returns-clause-begins : goal.returns-clause-begins
returns-clause-begins c = λ h header after_empty is. begins h header after_empty is c.packed_primary_law.ensures.begins
