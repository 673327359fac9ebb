-- The law, by computing.
use Rattle.fz_laws.proofs.FormSteps.{two_are}
use Rattle.fz_laws.proofs.GridSteps.{six_are, six_file_is, six_order, six_sound, six_tiles_are}
use Rattle.fz_laws.proofs.GridTarget.{six_target}
use Rattle.fz_laws.proofs.LastSteps.{one_are}
use Rattle.fz_laws.proofs.worked_patches.grid_patch_law.Goals as goal

pub returns-clause-target : goal.returns-clause-target
returns-clause-target c = six_target

pub returns-clause-tiles : goal.returns-clause-tiles
returns-clause-tiles c = six_tiles_are

pub returns-clause-fault : goal.returns-clause-fault
returns-clause-fault c = six_sound

pub returns-clause-steps : goal.returns-clause-steps
returns-clause-steps c = six_are

pub returns-clause-order : goal.returns-clause-order
returns-clause-order c = six_order

pub returns-clause-file : goal.returns-clause-file
returns-clause-file c = six_file_is

pub returns-clause-last : goal.returns-clause-last
returns-clause-last c = one_are

pub returns-clause-form : goal.returns-clause-form
returns-clause-form c = two_are
