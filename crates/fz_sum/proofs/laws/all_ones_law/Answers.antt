use Rattle.fz_sum.proofs.AllOnes.{all-ones, all-ones_at}
use Rattle.fz_sum.proofs.laws.all_ones_law.Goals as goal

pub returns-clause-parts : goal.returns-clause-parts
returns-clause-parts c = all-ones

pub returns-clause-card : goal.returns-clause-card
returns-clause-card c = all-ones_at
