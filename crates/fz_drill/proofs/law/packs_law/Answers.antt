use Rattle.fz_drill.proofs.Packing.{packs}
use Rattle.fz_drill.proofs.law.packs_law.Goals as goal

pub returns : goal.returns
returns c = λ rows codec is. packs c.file_laws.ensures c.hdu_list_law.ensures.one rows is.some is.most codec
