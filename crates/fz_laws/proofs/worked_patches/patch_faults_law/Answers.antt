-- The law, by computing.
use Rattle.fz_laws.proofs.FaultTarget.{grid_is_first, longer_is_first, other_is_first, past_is_first, unfinished_is_first}
use Rattle.fz_laws.proofs.GridTarget.{axis_first, given_first, past_axis_first}
use Rattle.fz_laws.proofs.worked_patches.patch_faults_law.Goals as goal

pub returns-clause-outside : goal.returns-clause-outside
returns-clause-outside c = past_axis_first

pub returns-clause-axes : goal.returns-clause-axes
returns-clause-axes c = axis_first

pub returns-clause-given : goal.returns-clause-given
returns-clause-given c = given_first

pub returns-clause-follower : goal.returns-clause-follower
returns-clause-follower c = longer_is_first

pub returns-clause-unfinished : goal.returns-clause-unfinished
returns-clause-unfinished c = unfinished_is_first

pub returns-clause-form : goal.returns-clause-form
returns-clause-form c = other_is_first

pub returns-clause-missing : goal.returns-clause-missing
returns-clause-missing c = grid_is_first

pub returns-clause-row : goal.returns-clause-row
returns-clause-row c = past_is_first
