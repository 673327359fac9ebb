-- What holds whatever an answer is, and what the look at the headers tells of the end.
use Rattle.std.proofs.Common.{◌≡◌, ℕ, ◌≤◌, max, List, refl, arith}
use Rattle.std.specs.Prelude.{Option, Some, None, IfSome, Result, Ok, Err, OnOk}
use Rattle.fz_base.specs.Counts.{Tally, CountsKept}
use Rattle.fz_base.specs.Stop.{IfRefused, IsDefined, stop_of_short}
use Rattle.fz_base.specs.declared.failure.Short.{Short}
use Rattle.fz_base.specs.declared.failure.Short.TheVariants.{NoMemory as NoRoom, OverLimit as PastLimit}
use Rattle.fz_base.specs.declared.fault.Fault.{Fault}
use Rattle.fz_base.specs.declared.failure.Stop.{Stop}
use Rattle.fz_base.specs.declared.failure.Stop.TheVariants.{Refused, ReadFault, WriteFault, OverLimit, NoMemory}
use Rattle.fz_files.specs.Walks.{header_fault}
use Rattle.fz_files.specs.declared.job.Job.TheVariants.{Unpack}
use Rattle.fz_job.specs.Surveys.{surveyed}
use Rattle.fz_job.specs.declared.checks.JobChecks.TheVariants.{Unpack as UnpackChecks}
use Rattle.fz_job.specs.declared.survey.Survey.{Survey}
use Rattle.fz_job.specs.Stages.{TellsHeaderFault}
use Rattle.fz_job.specs.Known.{SurveysRefuse}

pub always : (held : Option (List ℕ)) (P : List ℕ → Type 0) → ((g : List ℕ) → P g) → IfSome held P
always None P is = tt
always (Some g) P is = is g

pub peak_stays : (held : Option (List ℕ)) (bound : List ℕ → ℕ) (old new : ℕ) → new ≡ old → IfSome held (λ g. new ≤ max old (bound g))
peak_stays held bound old new same = always held (λ g. new ≤ max old (bound g)) (λ g. omega (arith, same))

pub kept_same : (t : Tally) → CountsKept t t
kept_same t = record { faults_kept = omega arith; wants_kept = omega arith; faults_stay = λ end. end; wants_stay = λ end. end; names_kept = refl; not_amended = refl }

pub if_refused : {X : Type 0} (r : Result X Stop) (P : Fault → Type 0) → ((x : Fault) → P x) → IfRefused r P
if_refused (Ok x) P is = tt
if_refused (Err (Refused x)) P is = is x
if_refused (Err ReadFault) P is = tt
if_refused (Err WriteFault) P is = tt
if_refused (Err (OverLimit live asked limit)) P is = tt
if_refused (Err NoMemory) P is = tt

-- what is said of a refusal is weaker where it goes up
pub stop_weaker : (X Y : Type 0) (stop : Stop) {P Q : Fault → Type 0} → ((x : Fault) → P x → Q x) → IfRefused {X = X} (Err stop) P → IfRefused {X = Y} (Err stop) Q
stop_weaker X Y (Refused x) weaker is = weaker x is
stop_weaker X Y ReadFault weaker is = tt
stop_weaker X Y WriteFault weaker is = tt
stop_weaker X Y (OverLimit live asked limit) weaker is = tt
stop_weaker X Y NoMemory weaker is = tt

pub ok_always : {X E : Type 0} (r : Result X E) (P : Type 0) → P → OnOk r P
ok_always (Ok x) P is = is
ok_always (Err e) P is = tt

pub ok_weaker : {X E : Type 0} (r : Result X E) {P Q : Type 0} → (P → Q) → OnOk r P → OnOk r Q
ok_weaker (Ok x) weaker is = weaker is
ok_weaker (Err e) weaker is = tt

-- a file that the look at the headers refuses has that fault
pub look_refused : SurveysRefuse Unpack → (held : Option (List ℕ)) (stop : Stop) → IfSome held (λ g. IsDefined {X = Survey} (surveyed UnpackChecks g) (Err stop)) → TellsHeaderFault Unpack held stop
look_refused refuse held (Refused x) exact = by_held held exact
  where
    by_held : (told : Option (List ℕ)) → IfSome told (λ g. surveyed UnpackChecks g ≡ Err x) → IfSome told (λ g. header_fault Unpack g ≡ Some x)
    by_held None is = tt
    by_held (Some g) is = refuse g x is
look_refused refuse held ReadFault exact = tt
look_refused refuse held WriteFault exact = tt
look_refused refuse held (OverLimit live asked limit) exact = tt
look_refused refuse held NoMemory exact = tt

-- a buffer that was not given refuses nothing
pub if_short : (X : Type 0) (short : Short) (P : Fault → Type 0) → IfRefused {X = X} (Err (stop_of_short short)) P
if_short X NoRoom P = tt
if_short X (PastLimit live asked limit) P = tt
