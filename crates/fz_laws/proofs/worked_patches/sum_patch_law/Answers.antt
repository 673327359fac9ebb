-- The law, by computing.
use Rattle.fz_laws.proofs.SumSteps.{sum_are, target}
use Rattle.fz_laws.proofs.worked_patches.sum_patch_law.Goals as goal

pub returns-clause-target : goal.returns-clause-target
returns-clause-target c = target

pub returns-clause-steps : goal.returns-clause-steps
returns-clause-steps c = sum_are
