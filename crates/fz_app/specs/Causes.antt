-- Why a run ended as it did.
use Rattle.std.specs.Prelude.{ℕ, ◌≡◌, ◌⊎◌, ◌<◌, ◌↔◌, List, Option, None, IfSome, Result, IsErrOf, OnOk}
use Rattle.fz_base.specs.Counts.{Rose, Tally, CountsKept}
use Rattle.fz_base.specs.Stop.{IsRefused, TellsLimit}
use Rattle.fz_base.specs.Takings.{TellsFirstPast}
use Rattle.fz_base.specs.declared.failure.Stop.{Stop}
use Rattle.fz_base.specs.declared.failure.Stop.TheVariants.{ReadFault as StopRead, WriteFault as StopWrite, OverLimit as StopLimit, NoMemory as StopMemory}
use Rattle.fz_files.specs.Buffers.{IsOfFile, job_bound}
use Rattle.fz_files.specs.declared.job.Job.TheVariants.{Verify}
use Rattle.fz_job.specs.Clauses.{IsUnmade, greatest_bound}
use Rattle.fz_words.specs.Jobs.{job_of}
use Rattle.fz_app.specs.Answer.{IfRan, IsEnd}
use Rattle.fz_app.specs.Asked.{IfAsked, given, limit_of, most_bound, takings_told}
use Rattle.fz_app.specs.Ends.{TextIs, written_counts}
use Rattle.fz_app.specs.Lines.{status_line, GotLine}
use Rattle.fz_app.specs.Outputs.{LeavesFaulty, LeavesSink, LeavesSource}
use Rattle.fz_app.specs.declared.status.Status.{Status}
use Rattle.fz_app.specs.declared.status.Status.TheVariants.{Usage}

-- Different: comes exactly if the job is `verify`, it was done, and a sum of the file is wrong or, if the file is compared, it is not strict.
abbrev pub IsDifferent : List (List ℕ) → Option (List ℕ) → Status → Type 0
IsDifferent words held status = IfAsked words (λ asked. IsEnd asked (given asked.job held) status)

-- Usage: comes exactly if the words ask for nothing.
abbrev pub IsUsage : List (List ℕ) → Status → Type 0
IsUsage words status = (status ≡ Usage) ↔ (job_of words ≡ None)

-- Untouched: if the words ask for nothing, source, sink and meter are as they were, and the text got only the line of the usage. A job
-- that writes no file leaves the sink as it was, whatever the answer, and `drill` the source.
pub record IsUntouched (words : List (List ℕ)) (SameSource SameSink SameMeter : Type 0) (old new : TextIs) (status : Status) : Type 0 where
  pub by_usage : status ≡ Usage → SameSource × SameSink × SameMeter × GotLine (status_line Usage) old.contents new.contents old.tally new.tally
  pub sink : IfAsked words (λ asked. LeavesSink asked.job SameSink)
  pub source : IfAsked words (λ asked. LeavesSource asked.job SameSource)

-- Done and Different: come only if no count of the source, of the sink and of the text rose, so no call of theirs failed.
abbrev pub DoneHasCause : List (List ℕ) → Tally → Tally → Tally → Tally → Tally → Tally → Status → Type 0
DoneHasCause words source source' sink sink' text text' status =
    IfRan words status (λ asked answer. OnOk answer ((source' ≡ source) × (sink' ≡ sink) × (text' ≡ text)))

-- Refused: comes only of a job that is given a file, if no count of the source and of the sink rose.
abbrev pub RefusedHasCause : List (List ℕ) → Tally → Tally → Tally → Tally → Status → Type 0
RefusedHasCause words source source' sink sink' status =
    IfRan words status (λ asked answer. IsRefused answer → IsOfFile asked.job × (source' ≡ source) × (sink' ≡ sink))

-- Read fault: comes only of a job that is given a file, if the source's count of faults rose.
abbrev pub ReadFaultHasCause : List (List ℕ) → Tally → Tally → Status → Type 0
ReadFaultHasCause words source source' status =
    IfRan words status (λ asked answer. IsErrOf answer StopRead → IsOfFile asked.job × Rose source.faults source'.faults)

-- Write fault: comes only if the count of faults rose of what the job writes to, the sink or the text.
abbrev pub WriteFaultHasCause : List (List ℕ) → Tally → Tally → Tally → Tally → Status → Type 0
WriteFaultHasCause words sink sink' text text' status =
    IfRan words status
    (λ asked answer. IsErrOf answer StopWrite → Rose (written_counts asked.job sink text).faults (written_counts asked.job sink' text').faults)

-- Over limit: comes exactly if a taking of what is asked passes the limit, and shows the first. A read fault, want of memory, or, for a
-- taking of the comparison, a write fault may come in its place. What passes it, with what is live, is never more than the bound of the job
-- on the file that it is given, of `drill` than the one bound that it has, and whatever the file than the greatest bound: so a limit of at
-- least the bound is never passed. The first taking of all jobs is one block: below that nothing is read of the file, whatever the answer.
pub record OverLimitHasCause
    (words : List (List ℕ)) (held : Option (List ℕ)) (limit : ℕ) (ranges ranges' : Option (List (ℕ × ℕ)))
    (status : Status) : Type 0 where
  pub told : IfRan words status (λ asked answer. TellsLimit (limit_of asked limit) (most_bound asked.job asked.workers) answer)
  pub first_past : IfRan words status
      (λ asked answer. IfSome (given asked.job held) (λ file. TellsFirstPast (limit_of asked limit) (takings_told asked answer file) answer))
  pub within : IfRan words status
      (λ asked answer. IfSome (given asked.job held) (λ file. TellsLimit (limit_of asked limit) (job_bound asked.job file asked.workers) answer))
  pub block : IfRan words status
      (λ asked answer. limit_of asked limit < 2880
      → IsErrOf answer (StopLimit 0 2880 (limit_of asked limit)) ⊎ (IsErrOf answer StopRead ⊎ IsErrOf answer StopMemory))
  pub unread : IfAsked words (λ asked. limit_of asked limit < 2880 → ranges' ≡ ranges)

-- Unmade: the sink is as before if a header of the file is refused or a taking of the job passes the limit, whatever the answer, and after
-- every refusal but that of an HDU which changed between two readings and, of a job that reads rows, that of a row. `retile` leaves it as
-- before if the file has any fault, also of a row.
pub record IsUnmadeFor (words : List (List ℕ)) (held : Option (List ℕ)) (limit : ℕ) (Same : Type 0) (status : Status) : Type 0 where
  pub by_job : IfRan words status (λ asked answer. IsUnmade asked.job held (limit_of asked limit) asked.workers Same answer)
  pub faulty : IfAsked words (λ asked. LeavesFaulty asked.job held Same)

-- no count falls
pub record AreCountsKept (source source' sink sink' text text' : Tally) : Type 0 where
  pub of_source : CountsKept source source'
  pub of_sink : CountsKept sink sink'
  pub of_text : CountsKept text text'

-- Why the comparison ended as it did: after Ok no count rose, and after Refused none of the source and of the text; the two faults come only
-- if that of the source or of the text rose; and what passes the limit is never more than the greatest bound.
pub record ComparesFor {X : Type 0} (source source' text text' : Tally) (limit : ℕ) (result : Result X Stop) : Type 0 where
  pub done : OnOk result ((source' ≡ source) × (text' ≡ text))
  pub refused : IsRefused result → (source' ≡ source) × (text' ≡ text)
  pub read_fault : IsErrOf result StopRead → Rose source.faults source'.faults
  pub write_fault : IsErrOf result StopWrite → Rose text.faults text'.faults
  pub over_limit : TellsLimit limit (greatest_bound Verify 1) result
