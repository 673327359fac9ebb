-- What is promised of an answer is promised of the status that tells it.
use Rattle.std.specs.Prelude.{Option, Some, None, IfSome, Result, Ok, Err}
use Rattle.fz_base.specs.declared.failure.Stop.{Stop}
use Rattle.fz_base.specs.declared.failure.Stop.TheVariants.{Refused as StopRefused, ReadFault as StopRead, WriteFault as StopWrite, OverLimit as StopLimit, NoMemory as StopMemory}
use Rattle.fz_app.specs.Answer.{IfAnswer, IsPromisedTo, status_of}
use Rattle.fz_app.specs.declared.status.Status.{Status}
use Rattle.fz_app.specs.declared.status.Status.TheVariants.{Done, Different, Usage, Refused, ReadFault, WriteFault, OverLimit, NoMemory}

-- a fact of an answer that follows from another
pub of_answer : (status : Status) (P Q : Result (Unit {0}) Stop → Type 0) → ((r : Result (Unit {0}) Stop) → P r → Q r) → IfAnswer status P → IfAnswer status Q
of_answer Done P Q f p = f (Ok tt) p
of_answer Different P Q f p = f (Ok tt) p
of_answer Usage P Q f p = tt
of_answer (Refused x) P Q f p = f (Err (StopRefused x)) p
of_answer ReadFault P Q f p = f (Err StopRead) p
of_answer WriteFault P Q f p = f (Err StopWrite) p
of_answer (OverLimit live asked limit) P Q f p = f (Err (StopLimit live asked limit)) p
of_answer NoMemory P Q f p = f (Err StopMemory) p

-- the status of an answer tells it
pub of_status : (r : Result (Unit {0}) Stop) (P : Result (Unit {0}) Stop → Type 0) → P r → IfAnswer (status_of r) P
of_status (Ok tt) P p = p
of_status (Err (StopRefused x)) P p = p
of_status (Err StopRead) P p = p
of_status (Err StopWrite) P p = p
of_status (Err (StopLimit live asked limit)) P p = p
of_status (Err StopMemory) P p = p

-- what was promised to whatever the words ask for
pub of_promise : {A : Type 0} (asked : Option A) (status : Status) (P Q : A → Result (Unit {0}) Stop → Type 0) → ((a : A) (r : Result (Unit {0}) Stop) → P a r → Q a r) →
    IsPromisedTo asked status P → IfSome asked (λ a. IfAnswer status (Q a))
of_promise None status P Q f p = tt
of_promise (Some a) status P Q f p = of_answer status (P a) (Q a) (f a) p.0
