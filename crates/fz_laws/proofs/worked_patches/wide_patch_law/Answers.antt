-- The law, by computing.
use Rattle.fz_laws.proofs.WideSteps.{lent_are, target}
use Rattle.fz_laws.proofs.worked_patches.wide_patch_law.Goals as goal

pub returns-clause-target : goal.returns-clause-target
returns-clause-target c = target

pub returns-clause-steps : goal.returns-clause-steps
returns-clause-steps c = lent_are
