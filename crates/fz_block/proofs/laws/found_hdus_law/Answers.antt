use Rattle.std.proofs.Common.{arith}
use Rattle.fz_block.proofs.Going.{all_pass, only_last, simple_first}
use Rattle.fz_block.proofs.laws.found_hdus_law.Goals as goal

pub returns-clause-pass : goal.returns-clause-pass
returns-clause-pass c = λ judge most file hs is. all_pass judge most 0 0 file hs (omega arith) is

pub returns-clause-simple : goal.returns-clause-simple
returns-clause-simple c = λ judge most file hs is. simple_first judge most file hs is

pub returns-clause-last : goal.returns-clause-last
returns-clause-last c = λ judge most file hs h is. only_last judge most 0 0 file hs h is
