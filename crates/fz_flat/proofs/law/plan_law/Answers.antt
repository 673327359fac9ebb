use Rattle.fz_flat.proofs.FlatLemmas.{image-back}
use Rattle.fz_flat.proofs.law.plan_law.Goals as goal

pub returns : goal.returns
returns c = λ image is. image-back image is
