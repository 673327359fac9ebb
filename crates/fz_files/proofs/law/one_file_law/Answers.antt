-- HDU by HDU, and in each tile by tile.
use Rattle.fz_files.proofs.RestoredLemmas.{one_file}
use Rattle.fz_files.proofs.law.one_file_law.Goals as goal

pub returns : goal.returns
returns c = one_file c.one_record_law.ensures c.tiles_law.ensures.same c.walk_law.ensures.headers c.packed_image_law.ensures.unpack
