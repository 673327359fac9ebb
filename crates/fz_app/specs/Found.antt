-- What the comparison of a file found, if it comes before the lines of `verify`.
use Rattle.std.specs.Prelude.{Bool, Result, Ok, Err}
use Rattle.fz_base.specs.declared.failure.Stop.{Stop}
use Rattle.fz_base.specs.declared.failure.Stop.TheVariants.{Refused as StopRefused, ReadFault as StopRead, WriteFault as StopWrite}
use Rattle.fz_base.specs.declared.failure.Stop.TheVariants.{OverLimit as StopLimit, NoMemory as StopMemory}
use Rattle.fz_base.specs.declared.fault.Fault.{Fault}

-- whether the file is strict, or the fault for which it is rejected: `verify` prints the lines before that; any other stop stays one
abbrev pub found_of : Result Bool Stop → Result (Result Bool Fault) Stop
found_of (Ok same) = Ok (Ok same)
found_of (Err (StopRefused x)) = Ok (Err x)
found_of (Err StopRead) = Err StopRead
found_of (Err StopWrite) = Err StopWrite
found_of (Err (StopLimit live asked limit)) = Err (StopLimit live asked limit)
found_of (Err StopMemory) = Err StopMemory
