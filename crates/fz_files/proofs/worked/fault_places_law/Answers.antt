-- The law, by computing.
use Rattle.fz_files.proofs.BothFileLemmas.{both_taken}
use Rattle.fz_files.proofs.FaultPlaceLemmas.{twice_is, huge_is, misplaced_is, groups_is, sort_is, nine_is}
use Rattle.fz_files.proofs.worked.fault_places_law.Goals as goal

pub returns-clause-reserved : goal.returns-clause-reserved
returns-clause-reserved c = twice_is

pub returns-clause-limit : goal.returns-clause-limit
returns-clause-limit c = huge_is

pub returns-clause-misplaced : goal.returns-clause-misplaced
returns-clause-misplaced c = misplaced_is

pub returns-clause-groups : goal.returns-clause-groups
returns-clause-groups c = groups_is

pub returns-clause-sort : goal.returns-clause-sort
returns-clause-sort c = sort_is

pub returns-clause-range : goal.returns-clause-range
returns-clause-range c = nine_is

pub returns-clause-taken : goal.returns-clause-taken
returns-clause-taken c = both_taken
