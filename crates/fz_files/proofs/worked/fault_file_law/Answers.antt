-- The law, by computing.
use Rattle.fz_files.proofs.FaultFileLemmas.{own_first, trailing_first, unpack_first}
use Rattle.fz_files.proofs.FaultRowLemmas.{past_first}
use Rattle.fz_files.proofs.worked.fault_file_law.Goals as goal

pub returns-clause-own : goal.returns-clause-own
returns-clause-own c = own_first

pub returns-clause-every : goal.returns-clause-every
returns-clause-every c = trailing_first

pub returns-clause-unpack : goal.returns-clause-unpack
returns-clause-unpack c = unpack_first

pub returns-clause-row : goal.returns-clause-row
returns-clause-row c = past_first
