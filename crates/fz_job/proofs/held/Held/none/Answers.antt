-- Nothing is held back, and nothing is written for it.
use Rattle.std.proofs.Common.{arith}
use Rattle.fz_job.proofs.HeldBytes.{no_write}
use Rattle.fz_job.proofs.held.Held.none.Goals as goal

pub returns-clause-held : goal.returns-clause-held
returns-clause-held c = λ held. record { within = omega arith; behind = omega arith }

pub returns-clause-settled : goal.returns-clause-settled
returns-clause-settled c = λ held contents. no_write 1 contents
