use Rattle.fz_block.proofs.Agains.{found_again, again_found}
use Rattle.fz_block.proofs.laws.again_law.Goals as goal

pub returns-clause-room : goal.returns-clause-room
returns-clause-room c = found_again

pub returns-clause-found : goal.returns-clause-found
returns-clause-found c = again_found
