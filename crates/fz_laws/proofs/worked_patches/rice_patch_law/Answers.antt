-- The law, by computing; that a code stands for its numbers is a law.
use Rattle.fz_laws.proofs.RiceSteps.{far_are, flat_are}
use Rattle.fz_laws.proofs.worked_patches.rice_patch_law.Goals as goal

pub returns-clause-stored : goal.returns-clause-stored
returns-clause-stored c = far_are c.tile_code_law.ensures.holds

pub returns-clause-coded : goal.returns-clause-coded
returns-clause-coded c = flat_are c.tile_code_law.ensures.holds
