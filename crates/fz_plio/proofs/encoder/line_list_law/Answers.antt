-- The law, over the definitions alone.
use Rattle.fz_plio.proofs.LawLemmas.{line_list-means}
use Rattle.fz_plio.proofs.encoder.line_list_law.Goals as goal

pub returns : goal.returns
returns c = line_list-means
