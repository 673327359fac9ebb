use Rattle.fz_pool.proofs.LawLemmas.{coded_all, tiles_all}
use Rattle.fz_pool.proofs.laws.round_law.Goals as goal

pub returns : goal.returns
returns c = record { encoded = coded_all; decoded = tiles_all }
