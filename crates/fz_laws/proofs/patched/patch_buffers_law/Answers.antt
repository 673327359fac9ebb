-- Header by header, and then the work.
use Rattle.fz_laws.proofs.PatchBuffers.{patch_is_bounded}
use Rattle.fz_laws.proofs.patched.patch_buffers_law.Goals as goal

pub returns : goal.returns
returns c = patch_is_bounded c.hdu_at_law.ensures.blocks
