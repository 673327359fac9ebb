-- Headers, and then rows and records.
use Rattle.fz_files.proofs.TouchedLemmas.{cuts_lie_within}
use Rattle.fz_files.proofs.ends.cut_reads_law.Goals as goal

pub returns : goal.returns
returns c = cuts_lie_within c.hdu_at_law.ensures.facts c.hdu_at_law.ensures.walk c.walk_law.ensures.headers c.packed_image_law.ensures.cut
