-- By the HDUs that both files have.
use Rattle.fz_laws.proofs.PatchedAgain.{patches_again, patches_cut_back}
use Rattle.fz_laws.proofs.patched.patch_again_law.Goals as goal

pub returns : goal.returns
returns c = record { again = patches_again c.safe_laws.ensures; back = patches_cut_back c.safe_laws.ensures }
