-- What a run promises, whatever the words, the source, the sink, the text and the meter.
use Rattle.std.specs.Prelude.{ℕ, ◌≡◌, ◌≢◌, ◌⊎◌, ◌≤◌, Bool, true, false, List, Option, Some, None, IfSome, OnOk}
use Rattle.fz_base.specs.Counts.{Rose, Tally}
use Rattle.fz_base.specs.FirstByte.{IsShut}
use Rattle.fz_base.specs.Meter.{Gauge}
use Rattle.fz_base.specs.Sink.{MayAppend}
use Rattle.fz_base.specs.Takings.{highest}
use Rattle.fz_base.specs.declared.fault.Fault.{Fault}
use Rattle.fz_files.specs.Buffers.{IsOfFile, job_bound, own_bound}
use Rattle.fz_files.specs.Lines.{report_lines}
use Rattle.fz_files.specs.declared.job.Job.{Job}
use Rattle.fz_files.specs.declared.job.Job.TheVariants.{Verify}
use Rattle.fz_files.specs.Decided.{first_fault}
use Rattle.fz_job.specs.Clauses.{TellsFirstFault}
use Rattle.fz_strict.specs.Clauses.{IsStrictAsSaid}
use Rattle.fz_words.specs.Jobs.{Asked, job_of}
use Rattle.fz_app.specs.Answer.{EndsAs, IfRan}
use Rattle.fz_app.specs.Asked.{IfAsked, given, is_compared, limit_of, most_bound, own_asked}
use Rattle.fz_app.specs.Ends.{TextIs, written_counts}
use Rattle.fz_app.specs.Lines.{status_line, GotLine}
use Rattle.fz_app.specs.Outputs.{HoldsJobOutput, HoldsJobSlice, JobRestores, IsFinished, IsWhole, PackedIsSound, ReadsTouched}
use Rattle.fz_app.specs.Printed.{IsPrinted, IsReported, compared_lines}
use Rattle.fz_app.specs.declared.status.Status.{Status}
use Rattle.fz_app.specs.declared.status.Status.TheVariants.{Done, Refused, WriteFault, NoMemory}

-- Output: after a job that was done the sink holds what the job writes for the bytes of the source, and was finished.
abbrev pub HasOutput : List (List ℕ) → Option (List ℕ) → Option (List ℕ) → Bool → Status → Type 0
HasOutput words held contents finished status =
    IfRan words status (λ asked answer. OnOk answer (HoldsJobOutput asked.job held contents × IsFinished asked.job finished))

-- Restored: after a file was packed the sink holds one that stands for the bytes of the source, and after a packed file of a plain file was
-- unpacked it holds the plain file. Such a file has no fault, whatever the answer.
pub record IsRestored (words : List (List ℕ)) (held contents : Option (List ℕ)) (status : Status) : Type 0 where
  pub contents_are : IfRan words status (λ asked answer. OnOk answer (JobRestores asked.job held contents))
  pub sound : IfAsked words (λ asked. IfSome held (PackedIsSound asked.job))

-- First fault: after a job that was done the file has none, and one that is refused is refused for its first.
abbrev pub HasFirstFault : List (List ℕ) → Option (List ℕ) → Status → Type 0
HasFirstFault words held status = IfRan words status (λ asked answer. TellsFirstFault asked.job (given asked.job held) answer)

-- Slice: after `cut` was done the sink holds a slice of every file that the source stands for: the numbers of its image at the picks, axis 1
-- fastest.
abbrev pub HasSlice : List (List ℕ) → Option (List ℕ) → Option (List ℕ) → Status → Type 0
HasSlice words held contents status = IfRan words status (λ asked answer. OnOk answer (HoldsJobSlice asked.job held contents))

-- Touched: whatever the answer, every byte that was read lies in the ranges that the job may read, also of a file that is compared.
abbrev pub ReadsWithin : List (List ℕ) → Option (List ℕ) → Option (List (ℕ × ℕ)) → Option (List (ℕ × ℕ)) → Type 0
ReadsWithin words held old new = IfAsked words (λ asked. ReadsTouched asked.job held old new)

-- Buffers: nothing is live, the limit is that of the meter or of the words, and the peak is at most that and at most the
-- bound of the job, of `retile` that of the meter that it is given. After a job that was done the peak is exactly the greatest sum of its
-- takings from this meter, for as many workers as were asked for: so
-- another meter or fewer workers are noticed if they change this sum.
pub record BuffersAreBounded (words : List (List ℕ)) (held : Option (List ℕ)) (old new : Gauge) (status : Status) : Type 0 where
  pub live : new.live ≡ 0
  pub within : new.peak ≤ new.limit
  pub limit : IfAsked words (λ asked. new.limit ≡ limit_of asked old.limit)
  pub peak : IfAsked words (λ asked. IfSome (given asked.job held) (λ file. new.peak ≤ own_bound asked.job file asked.workers))
  pub most : IfAsked words (λ asked. new.peak ≤ most_bound asked.job asked.workers)
  pub exact : IfRan words status (λ asked answer. OnOk answer (IfSome (given asked.job held) (λ file. new.peak ≡ highest (own_asked asked file))))

-- First byte: after another status than Done the contents are empty or begin with another byte than S, or they are the whole
-- output of the job on a file without a fault, and then the status is WriteFault or NoMemory.
abbrev pub HasFirstByteLast : List (List ℕ) → Option (List ℕ) → Option (List ℕ) → Status → Type 0
HasFirstByteLast words held contents status =
    status ≢ Done → IsShut contents ⊎ (IfAsked words (λ asked. IsWhole asked.job held contents) × ((status ≡ WriteFault) ⊎ (status ≡ NoMemory)))

-- a beginning of the lines that the first fault of the file decides, and, if the file is compared, that of the comparison
abbrev pub GotFrontBy : Bool → Job → List ℕ → Option (List ℕ) → Option (List ℕ) → Type 0
GotFrontBy false job file old new = MayAppend (report_lines job file (first_fault job file)) old new
GotFrontBy true job file old new = (same : Bool) → IsStrictAsSaid same file → MayAppend (compared_lines file (first_fault Verify file) same) old new

-- Text: it got the lines of the job, and after them the line of the status. Between them it was as the job left it: with a beginning of the
-- lines that the first fault of the file decides, whatever the status; and, whatever the source shows, if `verify` was done, with lines in which
-- no sum is reported as wrong, or one is if the status is Different. If the file is compared, the line that says whether it is strict comes after
-- those of `verify`, and decides with them.
pub record GotText (words : List (List ℕ)) (held : Option (List ℕ)) (limit : ℕ) (old new : TextIs) (status : Status) : Type 0 where
  pub between : TextIs
  pub lines : IsPrinted (job_of words) held limit old between status
  pub front : IfAsked words (λ asked. IfSome (given asked.job held) (λ file. GotFrontBy (is_compared asked) asked.job file old.contents between.contents))
  pub reported : IsReported (job_of words) old.contents between.contents status
  pub line : GotLine (status_line status) between.contents new.contents between.tally new.tally

-- The answers to a file with this first fault, or none: it is refused for it, or the job is done. Want of memory may stop that.
abbrev pub IsAnswerTo : Asked → List ℕ → Option Fault → Status → Type 0
IsAnswerTo asked file None status = EndsAs asked file status ⊎ (status ≡ NoMemory)
IsAnswerTo asked file (Some x) status = (status ≡ Refused x) ⊎ (status ≡ NoMemory)

-- Completeness: if no count of faults rose, of the source of a job that is given a file, and of what the job writes to, and the limit is at
-- least the bound of the job, only the first fault of the file decides.
abbrev pub IsComplete : List (List ℕ) → Option (List ℕ) → Tally → Tally → Tally → Tally → Tally → Tally → ℕ → Status → Type 0
IsComplete words held source source' sink sink' text text' limit status =
    IfAsked words (λ asked. (IsOfFile asked.job → ¬ Rose source.faults source'.faults)
    → ¬ Rose (written_counts asked.job sink text).faults (written_counts asked.job sink' text').faults
    → IfSome (given asked.job held) (λ file. job_bound asked.job file asked.workers ≤ limit_of asked limit
    → IsAnswerTo asked file (first_fault asked.job file) status))
