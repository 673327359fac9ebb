-- How the passes over the tiles end, by how their parts end: the counts of both files, what is attached, and what was logged.
use Rattle.std.proofs.Common.{Result, Ok, Err}
use Rattle.fz_base.specs.Stop.{IfRefused}
use Rattle.fz_base.specs.declared.fault.Fault.{Fault}
use Rattle.fz_base.specs.declared.failure.Stop.{Stop}
use Rattle.fz_base.specs.declared.failure.Stop.TheVariants.{Refused, ReadFault, WriteFault, OverLimit, NoMemory}

-- ---- refusals

pub refused_weaker : {X : Type 0} {P Q : Fault → Type 0} (r : Result X Stop) → ((x : Fault) → P x → Q x) → IfRefused r P → IfRefused r Q
refused_weaker (Ok x) f is = tt
refused_weaker (Err (Refused x)) f is = f x is
refused_weaker (Err ReadFault) f is = tt
refused_weaker (Err WriteFault) f is = tt
refused_weaker (Err (OverLimit live asked limit)) f is = tt
refused_weaker (Err NoMemory) f is = tt

-- the same stop of a call with another answer
pub refused_as : (X Y : Type 0) (P : Fault → Type 0) (stop : Stop) → IfRefused {X = X} (Err stop) P → IfRefused {X = Y} (Err stop) P
refused_as X Y P (Refused x) is = is
refused_as X Y P ReadFault is = tt
refused_as X Y P WriteFault is = tt
refused_as X Y P (OverLimit live asked limit) is = tt
refused_as X Y P NoMemory is = tt
