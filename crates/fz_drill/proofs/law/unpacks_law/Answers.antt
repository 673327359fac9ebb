use Rattle.fz_drill.proofs.Unpacking.{come_back}
use Rattle.fz_drill.proofs.law.unpacks_law.Goals as goal

pub returns : goal.returns
returns c = λ rows codec is bytes held. come_back c.packed_laws.ensures c.round_trip_law.ensures c.one_file_law.ensures rows is.some is.most codec bytes held (c.packs_law.ensures rows codec is)
