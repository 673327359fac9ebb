use Rattle.fz_pool.proofs.LawLemmas.{put_is, next_ready}
use Rattle.fz_pool.proofs.laws.put_law.Goals as goal

pub returns : goal.returns
returns c = record { put = put_is; ready = next_ready }
