-- What passes the limit: the first taking that does, which is within the bound of the job.
use Rattle.std.proofs.Common.{◌≡◌, ℕ, ◌<◌, ◌&&◌, not, Bool, List}
use Rattle.std.specs.Prelude.{◌⊎◌, Option, Some, None, IfSome, Result, Ok, Err, IsErrOf}
use Rattle.fz_base.specs.Stop.{TellsLimit}
use Rattle.fz_base.specs.Takings.{PastWithinLaw, TellsFirstPast, first_past}
use Rattle.fz_base.specs.declared.failure.Stop.{Stop}
use Rattle.fz_base.specs.declared.failure.Stop.TheVariants.{Refused as StopRefused, ReadFault as StopRead, WriteFault as StopWrite, OverLimit as StopLimit, NoMemory as StopMemory}
use Rattle.fz_files.specs.Buffers.{AreBounded, IsOfFile, job_bound, job_takings}
use Rattle.fz_files.specs.declared.job.Job.{Job}
use Rattle.fz_files.specs.declared.job.Job.TheVariants.{Pack, Unpack, Cut, Verify, List as ListHdus, Drill, Retile}
use Rattle.fz_words.specs.Jobs.{Asked, job_of}
use Rattle.fz_app.specs.Answer.{IsPromisedTo}
use Rattle.fz_app.specs.Asked.{given, is_compared_by, is_write_fault, limit_of, most_bound, takings_told, takings_with}
use Rattle.fz_app.specs.Causes.{OverLimitHasCause}
use Rattle.fz_app.specs.Ends.{Ends}
use Rattle.fz_app.specs.Promised.{IsPromised}
use Rattle.fz_app.specs.declared.status.Status.{Status}
use Rattle.fz_app.proofs.Answered.{of_promise}
use Rattle.fz_app.proofs.RunPromises.{asked_fact}
use Rattle.fz_app.proofs.StrictTakings.{all_within}

pub within_answer : PastWithinLaw → (limit most bound : ℕ) (ts : List (ℕ × ℕ)) (r : Result (Unit {0}) Stop) → first_past bound ts ≡ None → TellsLimit limit most r → TellsFirstPast limit ts r → TellsLimit limit bound r
within_answer past_within limit most bound ts (Ok x) none tells past = tt
within_answer past_within limit most bound ts (Err (StopRefused x)) none tells past = tt
within_answer past_within limit most bound ts (Err StopRead) none tells past = tt
within_answer past_within limit most bound ts (Err StopWrite) none tells past = tt
within_answer past_within limit most bound ts (Err (StopLimit live asked told)) none tells past = (tells.0, tells.1, past_within limit bound ts (live, asked) none past)
within_answer past_within limit most bound ts (Err StopMemory) none tells past = tt

-- `verify`, and the comparison if the file is compared
on_verify : PastWithinLaw → AreBounded → (compared : Bool) (W : ℕ) (held : Option (List ℕ)) (limit most : ℕ) (r : Result (Unit {0}) Stop) → TellsLimit limit most r → IfSome held (λ file. TellsFirstPast limit (takings_with compared file (job_takings Verify file W)) r) →
    IfSome held (λ file. TellsLimit limit (job_bound Verify file W) r)
on_verify past_within bounded compared W None limit most r tells past = tt
on_verify past_within bounded compared W (Some file) limit most r tells past = within_answer past_within limit most (job_bound Verify file W) (takings_with compared file (job_takings Verify file W)) r (all_within bounded compared file W) tells past

on_file : PastWithinLaw → AreBounded → (job : Job) (W : ℕ) (held : Option (List ℕ)) (limit most : ℕ) (r : Result (Unit {0}) Stop) → IsOfFile job → TellsLimit limit most r → IfSome held (λ file. TellsFirstPast limit (job_takings job file W) r) →
    IfSome held (λ file. TellsLimit limit (job_bound job file W) r)
on_file past_within bounded job W None limit most r of_file tells past = tt
on_file past_within bounded job W (Some file) limit most r of_file tells past = within_answer past_within limit most (job_bound job file W) (job_takings job file W) r (bounded job file W of_file) tells past

-- `drill` has one bound, and tells it itself
within_held : PastWithinLaw → AreBounded → (job : Job) (strict : Bool) (W : ℕ) (held : Option (List ℕ)) (limit : ℕ) (r : Result (Unit {0}) Stop) → TellsLimit limit (most_bound job W) r → IfSome (given job held) (λ file. TellsFirstPast limit (takings_with (is_compared_by job strict && not (is_write_fault r)) file (job_takings job file W)) r) →
    IfSome (given job held) (λ file. TellsLimit limit (job_bound job file W) r)
within_held past_within bounded (Pack o) strict W held limit r tells past = on_file past_within bounded (Pack o) W held limit _ r tt tells past
within_held past_within bounded Unpack strict W held limit r tells past = on_file past_within bounded Unpack W held limit _ r tt tells past
within_held past_within bounded (Cut wanted sieve) strict W held limit r tells past = on_file past_within bounded (Cut wanted sieve) W held limit _ r tt tells past
within_held past_within bounded Verify strict W held limit r tells past = on_verify past_within bounded (strict && not (is_write_fault r)) W held limit _ r tells past
within_held past_within bounded ListHdus strict W held limit r tells past = on_file past_within bounded ListHdus W held limit _ r tt tells past
within_held past_within bounded (Drill rows) strict W held limit r tells past = tells
within_held past_within bounded (Retile o) strict W held limit r tells past = on_file past_within bounded (Retile o) W held limit _ r tt tells past

-- which taking passed the limit
pub over_limit : PastWithinLaw → AreBounded → (words : List (List ℕ)) (old new : Ends) (status : Status) → IsPromisedTo (job_of words) status (λ (a : Asked). IsPromised a old new) → OverLimitHasCause words old.held old.meter.limit old.ranges new.ranges status
over_limit past_within bounded words old new status promise = record {
  told = of_promise (job_of words) status (λ (a : Asked). IsPromised a old new) (λ a r. TellsLimit (limit_of a old.meter.limit) (most_bound a.job a.workers) r) (λ a r p. p.told_limit) promise;
  first_past = of_promise (job_of words) status (λ (a : Asked). IsPromised a old new) (λ a r. IfSome (given a.job old.held) (λ file. TellsFirstPast (limit_of a old.meter.limit) (takings_told a r file) r)) (λ a r p. p.first_past) promise;
  within = of_promise (job_of words) status (λ (a : Asked). IsPromised a old new) (λ a r. IfSome (given a.job old.held) (λ file. TellsLimit (limit_of a old.meter.limit) (job_bound a.job file a.workers) r))
      (λ a r p. within_held past_within bounded a.job a.strict a.workers old.held (limit_of a old.meter.limit) r p.told_limit p.first_past) promise;
  block = of_promise (job_of words) status (λ (a : Asked). IsPromised a old new) (λ a r. limit_of a old.meter.limit < 2880 → IsErrOf r (StopLimit 0 2880 (limit_of a old.meter.limit)) ⊎ (IsErrOf r StopRead ⊎ IsErrOf r StopMemory)) (λ a r p. p.block) promise;
  unread = asked_fact (job_of words) status (λ (a : Asked). IsPromised a old new) (λ a. limit_of a old.meter.limit < 2880 → new.ranges ≡ old.ranges) (λ a r p. p.unread) promise;
}
