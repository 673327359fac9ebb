use Rattle.fz_head.proofs.Whole.{replaced}
use Rattle.fz_head.proofs.WholeCards.{all-whole}
use Rattle.fz_head.proofs.law.card_in_place_law.Goals as goal

pub returns : goal.returns
returns c = λ before card other behind are is also. replaced before card other behind (all-whole before are) is also
