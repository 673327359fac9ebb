use Rattle.fz_pool.proofs.HalfLemmas.{halves_alike, both_alike}
use Rattle.fz_pool.proofs.laws.halves_law.Goals as goal

pub returns : goal.returns
returns c = record { halves = halves_alike; both = both_alike }
