-- By the checks of a packed image.
use Rattle.fz_look.proofs.Readable.{is_readable}
use Rattle.fz_look.proofs.law.readable_law.Goals as goal

pub returns : goal.returns
returns c = λ h header flag i read found table. is_readable c.packed_image_law.ensures.unpack h header flag i read found table
