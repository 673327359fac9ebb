-- By what is known of the file after each write.
use Rattle.fz_laws.proofs.SafeAfter.{each_prefix_is_safe}
use Rattle.fz_laws.proofs.patched.safe_patch_law.Goals as goal

pub returns : goal.returns
returns c = each_prefix_is_safe c.safe_laws.ensures
