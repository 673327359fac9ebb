-- What is promised of the answer of a job is promised of the status that tells it.
use Rattle.std.proofs.Common.{◌≡◌, ℕ, ◌&&◌, not, List, refl, sym, subst}
use Rattle.std.specs.Prelude.{◌≢◌, Bool, true, false, Option, Some, None, IfOk, IfSome, Result, Ok, Err, if◌then◌else◌}
use Rattle.fz_base.specs.declared.failure.Stop.{Stop}
use Rattle.fz_base.specs.declared.failure.Stop.TheVariants.{Refused as StopRefused, ReadFault as StopRead, WriteFault as StopWrite, OverLimit as StopLimit, NoMemory as StopMemory}
use Rattle.fz_files.specs.declared.job.Job.{Job}
use Rattle.fz_files.specs.declared.job.Job.TheVariants.{Pack, Unpack, Cut, Verify, List as ListHdus, Drill, Retile}
use Rattle.fz_files.specs.Lines.{has_wrong_sums}
use Rattle.fz_words.specs.Jobs.{Asked}
use Rattle.fz_app.specs.Answer.{EndsAs, EndsBy, IfAnswer, IsEnd, IsPromisedTo, IsRightBy, done_of, end_compared, end_of, status_of, status_of_verify}
use Rattle.fz_app.specs.Asked.{given, is_compared_by}
use Rattle.fz_app.specs.Ends.{Ends}
use Rattle.fz_app.specs.Printed.{JobReports, ReportsAs, ReportsBy}
use Rattle.fz_app.specs.Promised.{IsPromised}
use Rattle.fz_app.specs.declared.status.Status.{Status}
use Rattle.fz_app.specs.declared.status.Status.TheVariants.{Done, Different, Usage}
use Rattle.fz_app.proofs.Answered.{of_status}

-- no answer is told by Usage
not_usage : (r : Result (Unit {0}) Stop) → status_of r ≢ Usage
not_usage (Ok tt) = λ e. absurd cc
not_usage (Err (StopRefused x)) = λ e. absurd cc
not_usage (Err StopRead) = λ e. absurd cc
not_usage (Err StopWrite) = λ e. absurd cc
not_usage (Err (StopLimit live asked limit)) = λ e. absurd cc
not_usage (Err StopMemory) = λ e. absurd cc

-- nor by Different, which only `verify` has
pub not_different : (r : Result (Unit {0}) Stop) → status_of r ≢ Different
not_different (Ok tt) = λ e. absurd cc
not_different (Err (StopRefused x)) = λ e. absurd cc
not_different (Err StopRead) = λ e. absurd cc
not_different (Err StopWrite) = λ e. absurd cc
not_different (Err (StopLimit live asked limit)) = λ e. absurd cc
not_different (Err StopMemory) = λ e. absurd cc

-- what is promised of an answer to what words ask for
pub promised_to : {A : Type 0} (words : Option A) (asked : A) (status : Status) (P : A → Result (Unit {0}) Stop → Type 0) (r : Result (Unit {0}) Stop) → words ≡ Some asked → status ≡ status_of r → P asked r →
    IsPromisedTo words status P
promised_to {A} words asked status P r is e p =
    subst (λ (o : Option A). IsPromisedTo o status P) (sym is) (subst (λ (s : Status). IfAnswer s (P asked) × (s ≢ Usage)) (sym e) (of_status r (P asked) p, not_usage r))

-- the status of the answer of `verify` tells it, and is not Usage
of_verify : (r : Result Bool Stop) (P : Result (Unit {0}) Stop → Type 0) → P (done_of r) → IfAnswer (status_of_verify r) P × (status_of_verify r ≢ Usage)
of_verify (Ok true) P p = (p, λ e. absurd cc)
of_verify (Ok false) P p = (p, λ e. absurd cc)
of_verify (Err (StopRefused x)) P p = (p, λ e. absurd cc)
of_verify (Err StopRead) P p = (p, λ e. absurd cc)
of_verify (Err StopWrite) P p = (p, λ e. absurd cc)
of_verify (Err (StopLimit live asked limit)) P p = (p, λ e. absurd cc)
of_verify (Err StopMemory) P p = (p, λ e. absurd cc)

module _ (asked : Asked) (old new : Ends) (status : Status) where
  pub ran : (r : Result (Unit {0}) Stop) → status ≡ status_of r → IsPromised asked old new r → IsPromisedTo (Some asked) status (λ (a : Asked). IsPromised a old new)
  ran r e p = subst (λ (s : Status). IfAnswer s (IsPromised asked old new) × (s ≢ Usage)) (sym e) (of_status r (IsPromised asked old new) p, not_usage r)

  pub verified : (r : Result Bool Stop) → status ≡ status_of_verify r → IsPromised asked old new (done_of r) → IsPromisedTo (Some asked) status (λ (a : Asked). IsPromised a old new)
  verified r e p = subst (λ (s : Status). IfAnswer s (IsPromised asked old new) × (s ≢ Usage)) (sym e) (of_verify r (IsPromised asked old new) p)

-- the status of the answer of `verify` says what its lines say
by_answer : (strict : Bool) (r : Result Bool Stop) (old new : Option (List ℕ)) → IfOk r (ReportsBy strict old new) → ReportsAs strict (status_of_verify r) old new
by_answer strict (Ok true) old new p = p
by_answer strict (Ok false) old new p = p
by_answer strict (Err (StopRefused x)) old new p = tt
by_answer strict (Err StopRead) old new p = tt
by_answer strict (Err StopWrite) old new p = tt
by_answer strict (Err (StopLimit live asked limit)) old new p = tt
by_answer strict (Err StopMemory) old new p = tt

-- and so it is for whatever job was asked
of_job : (job : Job) (strict : Bool) (status : Status) (old new : Option (List ℕ)) → ReportsAs strict status old new → JobReports job (is_compared_by job strict) old new status
of_job (Pack options) strict status old new p = tt
of_job Unpack strict status old new p = tt
of_job (Cut wanted sieve) strict status old new p = tt
of_job Verify strict status old new p = p
of_job ListHdus strict status old new p = tt
of_job (Drill rows) strict status old new p = tt
of_job (Retile options) strict status old new p = tt

pub reports : (job : Job) (strict : Bool) (status : Status) (r : Result Bool Stop) (old new : Option (List ℕ)) → status ≡ status_of_verify r → IfOk r (ReportsBy strict old new) → JobReports job (is_compared_by job strict) old new status
reports job strict status r old new e p = of_job job strict status old new (subst (λ (s : Status). ReportsAs strict s old new) (sym e) (by_answer strict r old new p))

-- ---- how a run ends

-- `verify` ends by what it found to be right
sums_end : (wrong : Bool) → status_of_verify (Ok (not wrong)) ≡ (if wrong then Different else Done)
sums_end true = refl
sums_end false = refl

both_end : (all : Bool) → status_of_verify (Ok all) ≡ (if all then Done else Different)
both_end true = refl
both_end false = refl

end_by : (strict right : Bool) (file : List ℕ) → IsRightBy strict right file → EndsBy strict Verify file (status_of_verify (Ok right))
end_by false right file p = subst (λ (b : Bool). status_of_verify (Ok b) ≡ end_of Verify file) (sym p) (sums_end (has_wrong_sums file))
end_by true right file p = (p.0, p.1, subst (λ (b : Bool). status_of_verify (Ok b) ≡ end_compared p.0 file) (sym p.2) (both_end (not (has_wrong_sums file) && p.0)))

end_held : (strict right : Bool) (held : Option (List ℕ)) → IfSome held (IsRightBy strict right) → IfSome held (λ file. EndsBy strict Verify file (status_of_verify (Ok right)))
end_held strict right None p = tt
end_held strict right (Some file) p = end_by strict right file p

module _ (W : ℕ) (strict : Bool) (memory : ℕ) (input output : List ℕ) (held : Option (List ℕ)) where
  abbrev verifying : Asked
  verifying = record { job = Verify; workers = W; strict = strict; memory = memory; input = input; output = output }

  by_right : (r : Result Bool Stop) → IfOk r (λ right. IfSome held (IsRightBy strict right)) → IsEnd verifying held (status_of_verify r)
  by_right (Ok true) p = record { of_verify = λ e. refl; done = end_held strict true held p }
  by_right (Ok false) p = record { of_verify = λ e. refl; done = end_held strict false held p }
  by_right (Err (StopRefused x)) p = record { of_verify = λ e. refl; done = tt }
  by_right (Err StopRead) p = record { of_verify = λ e. refl; done = tt }
  by_right (Err StopWrite) p = record { of_verify = λ e. refl; done = tt }
  by_right (Err (StopLimit live asked limit)) p = record { of_verify = λ e. refl; done = tt }
  by_right (Err StopMemory) p = record { of_verify = λ e. refl; done = tt }

  pub verify_ends : (job : Job) (status : Status) (r : Result Bool Stop) → job ≡ Verify → status ≡ status_of_verify r → IfOk r (λ right. IfSome held (IsRightBy strict right)) →
      IsEnd (record { job = job; workers = W; strict = strict; memory = memory; input = input; output = output }) (given job held) status
  verify_ends job status r is e p =
      subst (λ (j : Job). IsEnd (record { job = j; workers = W; strict = strict; memory = memory; input = input; output = output }) (given j held) status) (sym is)
      (subst (λ (s : Status). IsEnd verifying held s) (sym e) (by_right r p))

-- every other job ends in one way
module _ (asked : Asked) (held : Option (List ℕ)) (ends : (file : List ℕ) → EndsAs asked file Done) where
  done_held : (told : Option (List ℕ)) → IfSome told (λ file. EndsAs asked file Done)
  done_held None = tt
  done_held (Some file) = ends file

  pub job_ends : (r : Result (Unit {0}) Stop) → IsEnd asked held (status_of r)
  job_ends (Ok tt) = record { of_verify = λ e. absurd cc; done = done_held held }
  job_ends (Err (StopRefused x)) = record { of_verify = λ e. absurd cc; done = tt }
  job_ends (Err StopRead) = record { of_verify = λ e. absurd cc; done = tt }
  job_ends (Err StopWrite) = record { of_verify = λ e. absurd cc; done = tt }
  job_ends (Err (StopLimit live asked limit)) = record { of_verify = λ e. absurd cc; done = tt }
  job_ends (Err StopMemory) = record { of_verify = λ e. absurd cc; done = tt }

-- a job other than `verify`
abbrev pub is_other : Job → Bool
is_other (Pack options) = true
is_other Unpack = true
is_other (Cut wanted sieve) = true
is_other Verify = false
is_other ListHdus = true
is_other (Drill rows) = true
is_other (Retile options) = true

other_end : (job : Job) (strict : Bool) → is_other job ≡ true → (file : List ℕ) → EndsBy (is_compared_by job strict) job file Done
other_end (Pack options) strict is = λ file. refl
other_end Unpack strict is = λ file. refl
other_end (Cut wanted sieve) strict is = λ file. refl
other_end Verify strict is = λ file. absurd cc
other_end ListHdus strict is = λ file. refl
other_end (Drill rows) strict is = λ file. refl
other_end (Retile options) strict is = λ file. refl

module _ (asked : Asked) (held : Option (List ℕ)) (status : Status) where
  pub other_ends : (r : Result (Unit {0}) Stop) → is_other asked.job ≡ true → status ≡ status_of r → IsEnd asked (given asked.job held) status
  other_ends r is e = subst (λ (s : Status). IsEnd asked (given asked.job held) s) (sym e) (job_ends asked (given asked.job held) (other_end asked.job asked.strict is) r)
