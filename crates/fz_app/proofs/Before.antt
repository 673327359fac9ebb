-- What is promised if a run stops before its job begins: nothing was read, the sink is as before, and no name was given twice.
use Rattle.fz_app.proofs.CutAnswers.{nothing_read}
use Rattle.fz_app.proofs.JobAnswers.{left_faulty}
use Rattle.fz_app.proofs.NamesAnswers.{stopped_before}

pub ruleset before_the_job = (nothing_read, left_faulty, stopped_before)
