-- By the tiles that hold a pick.
use Rattle.fz_files.proofs.OneCutout.{one_cutout}
use Rattle.fz_files.proofs.law.one_cutout_law.Goals as goal

pub returns : goal.returns
returns c = one_cutout c.one_record_law.ensures c.picked_tiles_law.ensures.same c.walk_law.ensures.headers c.packed_image_law.ensures.cut
