use Rattle.fz_block.proofs.Found.{found_blocks, found_header}
use Rattle.fz_block.proofs.laws.found_law.Goals as goal

pub returns-clause-blocks : goal.returns-clause-blocks
returns-clause-blocks c = found_blocks

pub returns-clause-header : goal.returns-clause-header
returns-clause-header c = found_header
