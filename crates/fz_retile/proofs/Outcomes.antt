-- What holds whatever an answer is, and what the look at the headers tells of the end.
use Rattle.std.specs.Prelude.{Result, Ok, Err}
use Rattle.fz_base.specs.Stop.{IfRefused}
use Rattle.fz_base.specs.declared.fault.Fault.{Fault}
use Rattle.fz_base.specs.declared.failure.Stop.{Stop}
use Rattle.fz_base.specs.declared.failure.Stop.TheVariants.{Refused, ReadFault, WriteFault, OverLimit, NoMemory}

pub refused_weaker : {X : Type 0} (r : Result X Stop) {P Q : Fault → Type 0} → ((x : Fault) → P x → Q x) → IfRefused r P → IfRefused r Q
refused_weaker (Ok x) weaker is = tt
refused_weaker (Err (Refused x)) weaker is = weaker x is
refused_weaker (Err ReadFault) weaker is = tt
refused_weaker (Err WriteFault) weaker is = tt
refused_weaker (Err (OverLimit live asked limit)) weaker is = tt
refused_weaker (Err NoMemory) weaker is = tt
