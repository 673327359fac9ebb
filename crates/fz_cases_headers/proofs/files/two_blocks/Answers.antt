use Rattle.std.proofs.Common.{arith}
use Rattle.fz_cases_headers.proofs.files.two_blocks.Goals as goal

-- the buffer has two blocks
pub read_header-requires-clause-blocks : goal.read_header-requires-clause-blocks
read_header-requires-clause-blocks c = (2, omega arith, omega arith, omega arith)
