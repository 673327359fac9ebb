-- By the box, which no check refuses.
use Rattle.fz_files.proofs.PickLemmas.{picks_cut_one}
use Rattle.fz_files.proofs.law.one_picked_file_law.Goals as goal

pub returns : goal.returns
returns c = picks_cut_one c.one_record_law.ensures c.picked_tiles_law.ensures.same c.walk_law.ensures.headers c.packed_image_law.ensures.cut
