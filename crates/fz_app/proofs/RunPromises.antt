-- The promises of a run that are more than those of the answer to what the words ask for: completeness, what a text got, and the causes that tell of
-- the text, behind which comes the line of the status.
use Rattle.std.proofs.Common.{◌≡◌, ℕ, ◌≤◌, List, refl, subst}
use Rattle.std.specs.Prelude.{◌≢◌, Option, Some, None, IfSome, Result, Ok, Err, OnOk, IsErrOf}
use Rattle.fz_base.specs.Counts.{CountsKept, Rose, Tally}
use Rattle.fz_base.specs.Stop.{IsRefused}
use Rattle.fz_base.specs.declared.failure.Stop.{Stop}
use Rattle.fz_base.specs.declared.failure.Stop.TheVariants.{Refused as StopRefused, ReadFault as StopRead, WriteFault as StopWrite, OverLimit as StopLimit, NoMemory as StopMemory}
use Rattle.fz_files.specs.Buffers.{IsOfFile, job_bound}
use Rattle.fz_files.specs.declared.job.Job.{Job}
use Rattle.fz_files.specs.declared.job.Job.TheVariants.{Pack, Unpack, Cut, Verify, List as ListHdus, Drill, Retile}
use Rattle.fz_files.specs.Decided.{first_fault}
use Rattle.fz_laws.specs.RoundTrip.{ComesBack, HasNoOtherFault}
use Rattle.fz_job.specs.Clauses.{IsAnswer, IsUnmade, TellsFirstFault}
use Rattle.fz_words.specs.Jobs.{Asked, job_of}
use Rattle.fz_app.specs.Answer.{IfAnswer, IsEnd, IsPromisedTo}
use Rattle.fz_app.specs.Asked.{given, is_compared, limit_of}
use Rattle.fz_app.specs.Causes.{AreCountsKept, IsUnmadeFor}
use Rattle.fz_app.specs.Ends.{Ends, IsSameSink, TextIs, counts_written, written_counts}
use Rattle.fz_app.specs.Lines.{status_line, GotLine}
use Rattle.fz_app.specs.Outputs.{JobRestores, LeavesFaulty, PackedIsSound}
use Rattle.fz_app.specs.Printed.{IsPrinted, JobPrinted}
use Rattle.fz_app.specs.Promised.{IsPromised}
use Rattle.fz_app.specs.Promises.{IsAnswerTo, IsComplete, IsRestored}
use Rattle.fz_app.specs.declared.status.Status.{Status}
use Rattle.fz_app.specs.declared.status.Status.TheVariants.{Usage}
use Rattle.fz_app.specs.declared.status.Status.TheVariants as stat
use Rattle.fz_app.proofs.Answered.{of_answer, of_promise}
use Rattle.fz_app.proofs.Complete.{decides}
use Rattle.fz_app.proofs.Tallies.{kept_twice, rose_on}

-- a fact that each answer to what is asked has
any_answer : (status : Status) (P : Result (Unit {0}) Stop → Type 0) (Q : Type 0) → ((r : Result (Unit {0}) Stop) → P r → Q) → status ≢ Usage → IfAnswer status P → Q
any_answer stat.Done P Q f u p = f (Ok tt) p
any_answer stat.Different P Q f u p = f (Ok tt) p
any_answer stat.Usage P Q f u p = absurd (u refl)
any_answer (stat.Refused x) P Q f u p = f (Err (StopRefused x)) p
any_answer stat.ReadFault P Q f u p = f (Err StopRead) p
any_answer stat.WriteFault P Q f u p = f (Err StopWrite) p
any_answer (stat.OverLimit live asked limit) P Q f u p = f (Err (StopLimit live asked limit)) p
any_answer stat.NoMemory P Q f u p = f (Err StopMemory) p

pub asked_fact : {A : Type 0} (asked : Option A) (status : Status) (P : A → Result (Unit {0}) Stop → Type 0) (Q : A → Type 0) → ((a : A) (r : Result (Unit {0}) Stop) → P a r → Q a) → IsPromisedTo asked status P → IfSome asked Q
asked_fact None status P Q f p = tt
asked_fact (Some a) status P Q f p = any_answer status (P a) (Q a) (f a) p.1 p.0

-- one that holds also where nothing is asked
pub always : {A : Type 0} (asked : Option A) (status : Status) (P : A → Result (Unit {0}) Stop → Type 0) (Q : Type 0) → (status ≡ Usage → Q) → ((a : A) (r : Result (Unit {0}) Stop) → P a r → Q) → IsPromisedTo asked status P → Q
always None status P Q f g p = f p
always (Some a) status P Q f g p = any_answer status (P a) Q (g a) p.1 p.0

-- the answer to a file, where the limit is at least the bound
answers_to : (a : Asked) (held : Option (List ℕ)) (limit : ℕ) (r : Result (Unit {0}) Stop) → IfSome held (λ file. job_bound a.job file a.workers ≤ limit → IsAnswer r) → TellsFirstFault a.job held r →
    IfSome held (λ file. job_bound a.job file a.workers ≤ limit → IsAnswer r × TellsFirstFault a.job (Some file) r)
answers_to a None limit r x t = tt
answers_to a (Some file) limit r x t = λ b. (x b, t)

-- the same of the end of a job
if_end : (held : Option (List ℕ)) (asked : Asked) (status : Status) (X Y : List ℕ → Type 0) → ((file : List ℕ) → IsEnd asked (Some file) status → X file → Y file) → IsEnd asked held status → IfSome held X → IfSome held Y
if_end None asked status X Y f e x = tt
if_end (Some file) asked status X Y f e x = f file e x

-- what a job writes to rose, and the text did not fall behind it
risen : (job : Job) (sink sink' text text' now : Tally) → CountsKept text' now → Rose (written_counts job sink text).faults (written_counts job sink' text').faults → Rose (written_counts job sink text).faults (written_counts job sink' now).faults
risen (Pack options) sink sink' text text' now kept rose = rose
risen Unpack sink sink' text text' now kept rose = rose
risen (Cut wanted sieve) sink sink' text text' now kept rose = rose
risen Verify sink sink' text text' now kept rose = rose_on text.faults text'.faults now.faults rose kept.faults_kept
risen ListHdus sink sink' text text' now kept rose = rose_on text.faults text'.faults now.faults rose kept.faults_kept
risen (Drill rows) sink sink' text text' now kept rose = rose_on text.faults text'.faults now.faults rose kept.faults_kept
risen (Retile options) sink sink' text text' now kept rose = rose

with_file : (held : Option (List ℕ)) (status : Status) (B : List ℕ → Type 0) (F : List ℕ → Result (Unit {0}) Stop → Type 0) → IfAnswer status (λ r. IfSome held (λ file. B file → F file r)) →
    IfSome held (λ file. B file → IfAnswer status (F file))
with_file None status B F p = tt
with_file (Some file) status B F p = λ b. of_answer status (λ r. B file → F file r) (F file) (λ r f. f b) p

module _ (one : HasNoOtherFault) (old new : Ends) where
  decided : (a : Asked) (status : Status) → IfAnswer status (IsPromised a old new) × (status ≢ Usage) → IsEnd a (given a.job old.held) status → (IsOfFile a.job → ¬ Rose old.source.faults new.source.faults) → ¬ Rose (counts_written a.job old).faults (counts_written a.job new).faults →
      IfSome (given a.job old.held) (λ file. job_bound a.job file a.workers ≤ limit_of a old.meter.limit → IsAnswerTo a file (first_fault a.job file) status)
  decided a status p end s k =
      if_end (given a.job old.held) a status (λ file. job_bound a.job file a.workers ≤ limit_of a old.meter.limit → IfAnswer status (λ r. IsAnswer r × TellsFirstFault a.job (Some file) r)) (λ file. job_bound a.job file a.workers ≤ limit_of a old.meter.limit → IsAnswerTo a file (first_fault a.job file) status)
      (λ file e f b. decides one a file status (f b) p.1 e) end
      (with_file (given a.job old.held) status (λ file. job_bound a.job file a.workers ≤ limit_of a old.meter.limit) (λ file r. IsAnswer r × TellsFirstFault a.job (Some file) r)
      (of_answer status (IsPromised a old new) (λ r. IfSome (given a.job old.held) (λ file. job_bound a.job file a.workers ≤ limit_of a old.meter.limit → IsAnswer r × TellsFirstFault a.job (Some file) r))
      (λ r q. answers_to a (given a.job old.held) (limit_of a old.meter.limit) r (q.answered s k) q.first_fault) p.0))

  asked_decided : (asked : Option Asked) (status : Status) (now : Tally) → CountsKept new.text.tally now → IsPromisedTo asked status (λ (a : Asked). IsPromised a old new) → IfSome asked (λ a. IsEnd a (given a.job old.held) status) →
      IfSome asked (λ a. (IsOfFile a.job → ¬ Rose old.source.faults new.source.faults) → ¬ Rose (written_counts a.job old.sink.tally old.text.tally).faults (written_counts a.job new.sink.tally now).faults → IfSome (given a.job old.held) (λ file. job_bound a.job file a.workers ≤ limit_of a old.meter.limit → IsAnswerTo a file (first_fault a.job file) status))
  asked_decided None status now kept p e = tt
  asked_decided (Some a) status now kept p e = λ s k. decided a status p e s (λ r. k (risen a.job old.sink.tally new.sink.tally old.text.tally new.text.tally now kept r))

  pub complete : (words : List (List ℕ)) (status : Status) (now : Tally) → CountsKept new.text.tally now → IsPromisedTo (job_of words) status (λ (a : Asked). IsPromised a old new) → IfSome (job_of words) (λ a. IsEnd a (given a.job old.held) status) →
      IsComplete words old.held old.source new.source old.sink.tally new.sink.tally old.text.tally now old.meter.limit status
  complete words status now kept p e = asked_decided (job_of words) status now kept p e

  -- WriteFault tells that a count rose, also behind the line of the status
  pub write_fault : (asked : Option Asked) (status : Status) (now : Tally) → CountsKept new.text.tally now → IsPromisedTo asked status (λ (a : Asked). IsPromised a old new) →
      IfSome asked (λ a. IfAnswer status (λ r. IsErrOf r StopWrite → Rose (written_counts a.job old.sink.tally old.text.tally).faults (written_counts a.job new.sink.tally now).faults))
  write_fault asked status now kept = of_promise asked status (λ (a : Asked). IsPromised a old new) (λ a r. IsErrOf r StopWrite → Rose (written_counts a.job old.sink.tally old.text.tally).faults (written_counts a.job new.sink.tally now).faults)
      (λ a r p is. risen a.job old.sink.tally new.sink.tally old.text.tally new.text.tally now kept (p.write_fault is))

  -- a job that was done prints no line behind its own, so that no count of the text rose at all
  all_stay : (status : Status) (P Q : Type 0) (then now : Option (List ℕ)) (tally : Tally) → GotLine (status_line status) then now new.text.tally tally → IfAnswer status (λ r. OnOk r (P × Q × (new.text.tally ≡ old.text.tally))) → IfAnswer status (λ r. OnOk r (P × Q × (tally ≡ old.text.tally)))
  all_stay stat.Done P Q then now tally line p = (p.0, p.1, subst (λ (t : Tally). tally ≡ t) p.2 line.1)
  all_stay stat.Different P Q then now tally line p = (p.0, p.1, subst (λ (t : Tally). tally ≡ t) p.2 line.1)
  all_stay stat.Usage P Q then now tally line p = tt
  all_stay (stat.Refused x) P Q then now tally line p = tt
  all_stay stat.ReadFault P Q then now tally line p = tt
  all_stay stat.WriteFault P Q then now tally line p = tt
  all_stay (stat.OverLimit live asked limit) P Q then now tally line p = tt
  all_stay stat.NoMemory P Q then now tally line p = tt

  all_stay_asked : (asked : Option Asked) (status : Status) (P Q : Type 0) (then now : Option (List ℕ)) (tally : Tally) → GotLine (status_line status) then now new.text.tally tally → IfSome asked (λ a. IfAnswer status (λ r. OnOk r (P × Q × (new.text.tally ≡ old.text.tally)))) →
      IfSome asked (λ a. IfAnswer status (λ r. OnOk r (P × Q × (tally ≡ old.text.tally))))
  all_stay_asked None status P Q then now tally line p = tt
  all_stay_asked (Some a) status P Q then now tally line p = all_stay status P Q then now tally line p

  pub done : (asked : Option Asked) (status : Status) (then now : Option (List ℕ)) (tally : Tally) → GotLine (status_line status) then now new.text.tally tally → IsPromisedTo asked status (λ (a : Asked). IsPromised a old new) →
      IfSome asked (λ a. IfAnswer status (λ r. OnOk r ((new.source ≡ old.source) × (new.sink.tally ≡ old.sink.tally) × (tally ≡ old.text.tally))))
  done asked status then now tally line promise = all_stay_asked asked status (new.source ≡ old.source) (new.sink.tally ≡ old.sink.tally) then now tally line
      (of_promise asked status (λ (a : Asked). IsPromised a old new) (λ a r. OnOk r ((new.source ≡ old.source) × (new.sink.tally ≡ old.sink.tally) × (new.text.tally ≡ old.text.tally))) (λ a r p. p.done) promise)

  -- a refusal is of a file, and leaves the counts of source and sink
  pub refused : (asked : Option Asked) (status : Status) → IsPromisedTo asked status (λ (a : Asked). IsPromised a old new) → IfSome asked (λ a. IfAnswer status (λ r. IsRefused r → IsOfFile a.job × (new.source ≡ old.source) × (new.sink.tally ≡ old.sink.tally)))
  refused asked status = of_promise asked status (λ (a : Asked). IsPromised a old new) (λ a r. IsRefused r → IsOfFile a.job × (new.source ≡ old.source) × (new.sink.tally ≡ old.sink.tally)) (λ a r p is. ((p.refused is).0, (p.refused is).1.0, (p.refused is).1.1))

  -- what the job printed
  pub lines : (asked : Option Asked) (status : Status) → IsPromisedTo asked status (λ (a : Asked). IsPromised a old new) → (status ≡ Usage → new.text ≡ old.text) → IsPrinted asked old.held old.meter.limit old.text new.text status
  lines None status p same = same p
  lines (Some a) status p same = of_answer status (IsPromised a old new) (JobPrinted a.job (is_compared a) (given a.job old.held) (limit_of a old.meter.limit) a.workers old.text new.text) (λ r q. q.printed) p.0

pub counts : (asked : Option Asked) (old new : Ends) (status : Status) → IsPromisedTo asked status (λ (a : Asked). IsPromised a old new) → (status ≡ Usage → CountsKept old.source new.source) → (status ≡ Usage → CountsKept old.sink.tally new.sink.tally) → (status ≡ Usage → CountsKept old.text.tally new.text.tally) →
    (now : Tally) → CountsKept new.text.tally now → AreCountsKept old.source new.source old.sink.tally new.sink.tally old.text.tally now
counts asked old new status promise source sink text now kept = record {
  of_source = always asked status (λ a. IsPromised a old new) (CountsKept old.source new.source) source (λ a r p. p.source_counts) promise;
  of_sink = always asked status (λ a. IsPromised a old new) (CountsKept old.sink.tally new.sink.tally) sink (λ a r p. p.sink_counts) promise;
  of_text = kept_twice old.text.tally new.text.tally now (always asked status (λ a. IsPromised a old new) (CountsKept old.text.tally new.text.tally) text (λ a r p. p.text_counts) promise) kept;
}

-- a packed file has no fault of unpack, since it stands for a file
pub sound_packed : ComesBack → (job : Job) (file : List ℕ) → PackedIsSound job file
sound_packed law (Pack options) file = tt
sound_packed law Unpack file = λ options plain profile packed short. (law options plain file profile packed short).sound
sound_packed law (Cut wanted sieve) file = tt
sound_packed law Verify file = tt
sound_packed law ListHdus file = tt
sound_packed law (Drill rows) file = tt
sound_packed law (Retile options) file = tt

sound_held : ComesBack → (job : Job) (held : Option (List ℕ)) → IfSome held (PackedIsSound job)
sound_held law job None = tt
sound_held law job (Some file) = sound_packed law job file

sound_asked : ComesBack → (asked : Option Asked) (held : Option (List ℕ)) → IfSome asked (λ a. IfSome held (PackedIsSound a.job))
sound_asked law None held = tt
sound_asked law (Some a) held = sound_held law a.job held

pub restored : ComesBack → (words : List (List ℕ)) (old new : Ends) (status : Status) → IsPromisedTo (job_of words) status (λ (a : Asked). IsPromised a old new) → IsRestored words old.held new.sink.contents status
restored law words old new status promise = record {
  contents_are = of_promise (job_of words) status (λ (a : Asked). IsPromised a old new) (λ a r. OnOk r (JobRestores a.job old.held new.sink.contents)) (λ a r p. p.restored) promise;
  sound = sound_asked law (job_of words) old.held;
}

-- the sink is as before
pub unmade : (words : List (List ℕ)) (old new : Ends) (status : Status) → IsPromisedTo (job_of words) status (λ (a : Asked). IsPromised a old new) → IsUnmadeFor words old.held old.meter.limit (IsSameSink old.sink new.sink) status
unmade words old new status promise = record {
  by_job = of_promise (job_of words) status (λ (a : Asked). IsPromised a old new) (λ a r. IsUnmade a.job old.held (limit_of a old.meter.limit) a.workers (IsSameSink old.sink new.sink) r) (λ a r p. p.unmade) promise;
  faulty = asked_fact (job_of words) status (λ (a : Asked). IsPromised a old new) (λ a. LeavesFaulty a.job old.held (IsSameSink old.sink new.sink)) (λ a r p. p.faulty) promise;
}

-- words that ask for nothing: what stands in the text is the line of that
pub usage_line : (status : Status) (old then now : TextIs) → then ≡ old → status ≡ Usage → GotLine (status_line status) then.contents now.contents then.tally now.tally → GotLine (status_line Usage) old.contents now.contents old.tally now.tally
usage_line status old then now same is line = subst (λ (s : Status). GotLine (status_line s) old.contents now.contents old.tally now.tally) is (subst (λ (t : TextIs). GotLine (status_line status) t.contents now.contents t.tally now.tally) same line)
