-- By the walk over the headers, which is the same.
use Rattle.fz_files.proofs.SameFaults.{list_same, verify_same}
use Rattle.fz_files.proofs.law.same_faults_law.Goals as goal

pub returns : goal.returns
returns c = record { verify = verify_same; list = list_same }
