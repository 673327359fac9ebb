-- How a run ends, by numbers.
use Rattle.std.specs.Prelude.{ℕ}
use Rattle.fz_app.specs.declared.status.Status.{Status}
use Rattle.fz_app.specs.declared.status.Status.TheVariants.{Done, Different, Usage, Refused, ReadFault, WriteFault, OverLimit, NoMemory}

-- the exit status
abbrev pub status_number : Status → ℕ
status_number Done = 0
status_number Different = 1
status_number Usage = 2
status_number (Refused x) = 3
status_number ReadFault = 4
status_number WriteFault = 5
status_number (OverLimit live asked limit) = 6
status_number NoMemory = 7
