-- By the HDUs that the first look saw.
use Rattle.fz_files.specs.declared.job.Job.TheVariants.{Unpack}
use Rattle.fz_look.proofs.Pieces.{pieces}
use Rattle.fz_look.proofs.law.pieces_law.Goals as goal

pub returns : goal.returns
returns c = λ g s h is found. pieces c.packed_image_law.ensures.unpack c.plain_law.ensures.len c.tiles_law.ensures.whole g s (c.known_law.ensures.know Unpack tt g s is) h found
