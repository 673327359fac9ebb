-- The names that a job opens and makes, from those of the calls that it makes.
use Rattle.std.proofs.Common.{◌≡◌, ℕ, List, sym, ◌∙◌, subst, inr}
use Rattle.std.specs.Prelude.{Bool, true, false, Option, Result, Ok, Err, OnOk}
use Rattle.fz_base.specs.Counts.{Tally}
use Rattle.fz_base.specs.Names.{NamesOnce, with_name}
use Rattle.fz_base.specs.Stop.{Codes}
use Rattle.fz_base.specs.declared.failure.Stop.{Stop}
use Rattle.fz_base.specs.declared.failure.Stop.TheVariants.{Refused as StopRefused, ReadFault as StopRead, WriteFault as StopWrite, OverLimit as StopLimit, NoMemory as StopMemory}
use Rattle.fz_job.specs.Clauses.{IfOverLimit}
use Rattle.fz_words.specs.Jobs.{Asked}
use Rattle.fz_app.specs.Answer.{IfAnswer, done_of, status_of, status_of_verify}
use Rattle.fz_app.specs.Names.{JobNames, OpensOnce}
use Rattle.fz_app.specs.declared.status.Status.{Status}
use Rattle.fz_app.proofs.Answered.{of_status}

on_ok : {X : Type 0} (r : Result X Stop) (P : Type 0) → P → OnOk r P
on_ok (Ok x) P is = is
on_ok (Err stop) P is = tt

over_limit : {X : Type 0} (r : Result X Stop) (P : Type 0) → P → IfOverLimit r P
over_limit (Ok x) P is = tt
over_limit (Err (StopRefused x)) P is = tt
over_limit (Err StopRead) P is = tt
over_limit (Err StopWrite) P is = tt
over_limit (Err (StopLimit live asked limit)) P is = is
over_limit (Err StopMemory) P is = tt

-- a name that is there once more, whatever is answered after that
pub once_more : {X : Type 0} (name : List ℕ) (old mid new : Option (List (List ℕ))) (r : Result X Stop) → mid ≡ with_name name old → new ≡ mid → OpensOnce name old new r
once_more name old mid new r more stays =
    let is : new ≡ with_name name old = stays ∙ more in
    record { once = record { done = on_ok r _ is; at_most = inr is }; over_limit = over_limit r _ is }

-- the same of an answer without its value
pub once_done : {X : Type 0} (name : List ℕ) (old new : Option (List (List ℕ))) (r : Result X Stop) → OpensOnce name old new r → OpensOnce name old new (done_of r)
once_done name old new (Ok x) opens = record { once = record { done = opens.once.done; at_most = opens.once.at_most }; over_limit = tt }
once_done name old new (Err (StopRefused x)) opens = record { once = record { done = tt; at_most = opens.once.at_most }; over_limit = tt }
once_done name old new (Err StopRead) opens = record { once = record { done = tt; at_most = opens.once.at_most }; over_limit = tt }
once_done name old new (Err StopWrite) opens = record { once = record { done = tt; at_most = opens.once.at_most }; over_limit = tt }
once_done name old new (Err (StopLimit live asked limit)) opens = record { once = record { done = tt; at_most = opens.once.at_most }; over_limit = opens.over_limit }
once_done name old new (Err StopMemory) opens = record { once = record { done = tt; at_most = opens.once.at_most }; over_limit = tt }

-- what stops before the job does not answer that a buffer would pass the limit
pub stopped_before : {X Y : Type 0} (name : List ℕ) (old new : Option (List (List ℕ))) (before now : Tally) (stop : Stop)
    → NamesOnce {T = X} name old new (Err stop) → Codes {X = X} before now (Err stop) → OpensOnce {X = Y} name old new (Err stop)
stopped_before name old new before now (StopRefused x) once codes = record { once = record { done = tt; at_most = once.at_most }; over_limit = tt }
stopped_before name old new before now StopRead once codes = record { once = record { done = tt; at_most = once.at_most }; over_limit = tt }
stopped_before name old new before now StopWrite once codes = record { once = record { done = tt; at_most = once.at_most }; over_limit = tt }
stopped_before name old new before now (StopLimit live asked limit) once codes = absurd codes.stop
stopped_before name old new before now StopMemory once codes = record { once = record { done = tt; at_most = once.at_most }; over_limit = tt }

-- the status of an answer tells it
of_verify : (r : Result Bool Stop) (P : Result (Unit {0}) Stop → Type 0) → P (done_of r) → IfAnswer (status_of_verify r) P
of_verify (Ok true) P p = p
of_verify (Ok false) P p = p
of_verify (Err (StopRefused x)) P p = p
of_verify (Err StopRead) P p = p
of_verify (Err StopWrite) P p = p
of_verify (Err (StopLimit live asked limit)) P p = p
of_verify (Err StopMemory) P p = p

module _ (asked : Asked) (opened opened' made made' : Option (List (List ℕ))) (status : Status) where
  pub ran : (r : Result (Unit {0}) Stop) → status ≡ status_of r → JobNames asked opened opened' made made' r → IfAnswer status (λ answer. JobNames asked opened opened' made made' answer)
  ran r e names = subst (λ (s : Status). IfAnswer s (λ answer. JobNames asked opened opened' made made' answer)) (sym e) (of_status r (λ answer. JobNames asked opened opened' made made' answer) names)

  pub verified : (r : Result Bool Stop) → status ≡ status_of_verify r → JobNames asked opened opened' made made' (done_of r) → IfAnswer status (λ answer. JobNames asked opened opened' made made' answer)
  verified r e names = subst (λ (s : Status). IfAnswer s (λ answer. JobNames asked opened opened' made made' answer)) (sym e) (of_verify r (λ answer. JobNames asked opened opened' made made' answer) names)
