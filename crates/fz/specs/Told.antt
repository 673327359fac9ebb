-- What is explained of a status on standard error.
use Rattle.fz_app.specs.declared.status.Status.{Status}
use Rattle.fz_app.specs.declared.status.Status.TheVariants as status
use Rattle.fz_hints.specs.declared.ended.Ended.{Ended}
use Rattle.fz_hints.specs.declared.ended.Ended.TheVariants as ended

-- nothing after the statuses 0, 1 and 7
abbrev pub ended_of : Status → Ended
ended_of status.Done = ended.Quiet
ended_of status.Different = ended.Quiet
ended_of status.Usage = ended.Usage
ended_of (status.Refused fault) = ended.Refused fault
ended_of status.ReadFault = ended.ReadFault
ended_of status.WriteFault = ended.WriteFault
ended_of (status.OverLimit live asked limit) = ended.OverLimit live asked limit
ended_of status.NoMemory = ended.Quiet
