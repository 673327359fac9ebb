use Rattle.fz_block.proofs.Places.{all_there, blocks_found, facts_found, first_axes}
use Rattle.fz_block.proofs.laws.hdu_at_law.Goals as goal

pub returns-clause-facts : goal.returns-clause-facts
returns-clause-facts c = facts_found

pub returns-clause-blocks : goal.returns-clause-blocks
returns-clause-blocks c = blocks_found

pub returns-clause-axes : goal.returns-clause-axes
returns-clause-axes c = first_axes

pub returns-clause-walk : goal.returns-clause-walk
returns-clause-walk c = λ judge most file hs is. all_there judge file most 0 0 hs is
