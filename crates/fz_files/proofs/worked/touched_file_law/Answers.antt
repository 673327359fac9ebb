-- The law, by computing.
use Rattle.fz_files.proofs.TouchedFileLemmas.{unpack_touched, verify_touched, list_touched, pack_touched, rejected_touched}
use Rattle.fz_files.proofs.worked.touched_file_law.Goals as goal

pub returns-clause-unpack : goal.returns-clause-unpack
returns-clause-unpack c = unpack_touched

pub returns-clause-verify : goal.returns-clause-verify
returns-clause-verify c = verify_touched

pub returns-clause-list : goal.returns-clause-list
returns-clause-list c = list_touched

pub returns-clause-pack : goal.returns-clause-pack
returns-clause-pack c = pack_touched

pub returns-clause-rejected : goal.returns-clause-rejected
returns-clause-rejected c = rejected_touched
