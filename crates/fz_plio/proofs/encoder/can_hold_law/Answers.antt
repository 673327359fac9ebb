-- The law, over the definitions alone.
use Rattle.fz_plio.proofs.NumberLemmas.{can_hold_all-is}
use Rattle.fz_plio.proofs.encoder.can_hold_law.Goals as goal

pub returns : goal.returns
returns c = can_hold_all-is
