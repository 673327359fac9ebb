use Rattle.fz_flat.proofs.SaidLemmas.{said-packed}
use Rattle.fz_flat.proofs.law.packed_law.Goals as goal

pub returns : goal.returns
returns c = λ header h image is table. said-packed header h image is table
