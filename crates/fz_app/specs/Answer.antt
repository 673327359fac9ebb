-- The status of a run is made from its job's answer, and shows it: so what is said of the answers of jobs is said of statuses.
use Rattle.std.specs.Prelude.{ℕ, ◌≡◌, ◌≢◌, not, ◌&&◌, Bool, true, false, List, Option, Some, None, IfSome, Result, Ok, Err, OnOk, ⊤, if◌then◌else◌}
use Rattle.fz_base.specs.declared.failure.Stop.{Stop}
use Rattle.fz_base.specs.declared.failure.Stop.TheVariants.{Refused as StopRefused, ReadFault as StopRead, WriteFault as StopWrite}
use Rattle.fz_base.specs.declared.failure.Stop.TheVariants.{OverLimit as StopLimit, NoMemory as StopMemory}
use Rattle.fz_files.specs.Lines.{has_wrong_sums}
use Rattle.fz_files.specs.declared.job.Job.{Job}
use Rattle.fz_files.specs.declared.job.Job.TheVariants.{Pack, Unpack, Cut, Verify, List as ListHdus, Drill, Retile}
use Rattle.fz_strict.specs.Clauses.{IsStrictAsSaid}
use Rattle.fz_verify.specs.Clauses.{IsRightAsSaid}
use Rattle.fz_words.specs.Jobs.{Asked}
use Rattle.fz_app.specs.Asked.{IfAsked, is_compared}
use Rattle.fz_app.specs.declared.status.Status.{Status}
use Rattle.fz_app.specs.declared.status.Status.TheVariants.{Done, Different, Usage, Refused, ReadFault, WriteFault, OverLimit, NoMemory}

-- how a run ends whose job stopped
abbrev pub status_of_stop : Stop → Status
status_of_stop (StopRefused x) = Refused x
status_of_stop StopRead = ReadFault
status_of_stop StopWrite = WriteFault
status_of_stop (StopLimit live asked limit) = OverLimit live asked limit
status_of_stop StopMemory = NoMemory

-- how a run ends whose job answered
abbrev pub status_of : Result ⊤ Stop → Status
status_of (Ok done) = Done
status_of (Err stop) = status_of_stop stop

-- A fact of the answer that a status shows. Usage shows none, since no job was begun.
abbrev pub IfAnswer : Status → (Result ⊤ Stop → Type 0) → Type 0
IfAnswer Done P = P (Ok tt)
IfAnswer Different P = P (Ok tt)
IfAnswer Usage P = ⊤
IfAnswer (Refused x) P = P (Err (StopRefused x))
IfAnswer ReadFault P = P (Err StopRead)
IfAnswer WriteFault P = P (Err StopWrite)
IfAnswer (OverLimit live asked limit) P = P (Err (StopLimit live asked limit))
IfAnswer NoMemory P = P (Err StopMemory)

-- a fact of what the words ask for and of the answer to it
abbrev pub IfRan : List (List ℕ) → Status → (Asked → Result ⊤ Stop → Type 0) → Type 0
IfRan words status P = IfAsked words (λ asked. IfAnswer status (P asked))

-- how a run ends whose verifying answered that all is right, or that something is not
abbrev pub status_of_verify : Result Bool Stop → Status
status_of_verify (Ok true) = Done
status_of_verify (Ok false) = Different
status_of_verify (Err stop) = status_of_stop stop

-- an answer without its value: done, or why the job stopped
abbrev pub done_of : {X : Type 0} → Result X Stop → Result ⊤ Stop
done_of (Ok x) = Ok tt
done_of (Err stop) = Err stop

-- A promise of the answer to what the words ask for. If they ask for nothing the status is Usage, and otherwise it is not.
abbrev pub IsPromisedTo : {A : Type 0} → Option A → Status → (A → Result ⊤ Stop → Type 0) → Type 0
IsPromisedTo None status P = status ≡ Usage
IsPromisedTo (Some asked) status P = IfAnswer status (P asked) × (status ≢ Usage)

-- how a job ends that is done and compares nothing: `verify` by the sums of the file, and every other job in one way
abbrev pub end_of : Job → List ℕ → Status
end_of (Pack options) file = Done
end_of Unpack file = Done
end_of (Cut wanted sieve) file = Done
end_of Verify file = if has_wrong_sums file then Different else Done
end_of ListHdus file = Done
end_of (Drill rows) file = Done
end_of (Retile options) file = Done

-- how `verify` ends that compared the file too: Done if no sum is wrong and the file is strict
abbrev pub end_compared : Bool → List ℕ → Status
end_compared same file = if not (has_wrong_sums file) && same then Done else Different

-- how a job ends that is done, by whether the file is compared
abbrev pub EndsBy : Bool → Job → List ℕ → Status → Type 0
EndsBy false job file status = status ≡ end_of job file
EndsBy true job file status = (same : Bool) × IsStrictAsSaid same file × (status ≡ end_compared same file)

-- how it ends that is asked, if it is done
abbrev pub EndsAs : Asked → List ℕ → Status → Type 0
EndsAs asked file status = EndsBy (is_compared asked) asked.job file status

-- how a run ends: Different comes only of `verify`, and a job that was done ends as it does by the file
pub record IsEnd (asked : Asked) (held : Option (List ℕ)) (status : Status) : Type 0 where
  pub of_verify : status ≡ Different → asked.job ≡ Verify
  pub done : IfAnswer status (λ answer. OnOk answer (IfSome held (λ file. EndsAs asked file status)))

-- whether `verify` found the file as it should be: no sum is wrong, and, if the file is compared, it is strict
abbrev pub IsRightBy : Bool → Bool → List ℕ → Type 0
IsRightBy false right file = IsRightAsSaid right file
IsRightBy true right file = (same : Bool) × IsStrictAsSaid same file × (right ≡ (not (has_wrong_sums file) && same))
