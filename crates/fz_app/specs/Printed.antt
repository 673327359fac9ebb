-- What a job did to the text: it got the lines of the job.
use Rattle.std.specs.Prelude.{ℕ, ◌≡◌, ◌⊎◌, ◌&&◌, Bool, true, false, List, [], ◌++◌, Option, Some, None, IfSome, IsSome, Result, Ok, Err, OnOk, IsErrOf, ⊤}
use Rattle.fz_base.specs.Counts.{Rose, CountsKept}
use Rattle.fz_base.specs.Sink.{MayAppend, appended}
use Rattle.fz_base.specs.Stop.{IfRefused, IsRefused}
use Rattle.fz_base.specs.Takings.{first_past}
use Rattle.fz_base.specs.Told.{StaysTold}
use Rattle.fz_base.specs.declared.failure.Stop.{Stop}
use Rattle.fz_base.specs.declared.failure.Stop.TheVariants.{Refused as StopRefused, ReadFault as StopRead, WriteFault as StopWrite}
use Rattle.fz_base.specs.declared.failure.Stop.TheVariants.{OverLimit as StopLimit, NoMemory as StopMemory}
use Rattle.fz_base.specs.declared.fault.Fault.{Fault}
use Rattle.fz_files.specs.Buffers.{job_takings}
use Rattle.fz_files.specs.FirstFault.{IsFirstFault}
use Rattle.fz_files.specs.Lines.{report_lines}
use Rattle.fz_files.specs.Walks.{header_fault}
use Rattle.fz_files.specs.declared.job.Job.{Job}
use Rattle.fz_files.specs.declared.job.Job.TheVariants.{Pack, Unpack, Cut, Verify, List as ListHdus, Drill, Retile}
use Rattle.fz_job.specs.Clauses.{ComesLate, IfOverLimit, IsUnmade}
use Rattle.fz_strict.specs.Clauses.{IsStrictAsSaid}
use Rattle.fz_verify.specs.Clauses.{GotLines, PrintsLines}
use Rattle.fz_verify.specs.Reported.{Reports}
use Rattle.fz_words.specs.Jobs.{Asked}
use Rattle.fz_app.specs.Answer.{IfAnswer}
use Rattle.fz_app.specs.Asked.{given, is_compared, limit_of}
use Rattle.fz_app.specs.Ends.{TextIs}
use Rattle.fz_app.specs.Lines.{strict_text}
use Rattle.fz_app.specs.declared.status.Status.{Status}
use Rattle.fz_app.specs.declared.status.Status.TheVariants.{Done, Different, Usage, Refused, ReadFault, WriteFault, OverLimit, NoMemory}

-- the line of the comparison, which a file with a fault has not
abbrev pub compared_line : Option Fault → Bool → List ℕ
compared_line None same = strict_text same
compared_line (Some x) same = []

-- the lines of `verify` for a file of which this is the first fault, or none, and after them that of the comparison
abbrev pub compared_lines : List ℕ → Option Fault → Bool → List ℕ
compared_lines file fault same = report_lines Verify file fault ++ compared_line fault same

-- shown text with all of them after it
abbrev pub GotCompared : List ℕ → Option (List ℕ) → Option (List ℕ) → Type 0
GotCompared file old new = (same : Bool) × IsStrictAsSaid same file × (new ≡ appended (compared_lines file None same) old)

-- a prefix of them, whatever the first fault of the file is
abbrev pub GotComparedFront : List ℕ → Option (List ℕ) → Option (List ℕ) → Type 0
GotComparedFront file old new =
    (fault : Option Fault) (same : Bool) → IsFirstFault Verify file fault → IsStrictAsSaid same file → MayAppend (compared_lines file fault same) old new

-- After Ok the text has got the lines of `verify` and that of the comparison, and nothing else. After Refused it has got the lines of a file
-- with this first fault, and after every other answer a prefix of all lines.
abbrev pub PrintsCompared : Option (List ℕ) → Option (List ℕ) → Option (List ℕ) → Result ⊤ Stop → Type 0
PrintsCompared held old new (Ok done) = IfSome held (λ file. GotCompared file old new)
PrintsCompared held old new (Err (StopRefused x)) = IfSome held (λ file. GotLines Verify file (Some x) old new)
PrintsCompared held old new (Err StopRead) = IfSome held (λ file. GotComparedFront file old new)
PrintsCompared held old new (Err StopWrite) = IfSome held (λ file. GotComparedFront file old new)
PrintsCompared held old new (Err (StopLimit live asked limit)) = IfSome held (λ file. GotComparedFront file old new)
PrintsCompared held old new (Err StopMemory) = IfSome held (λ file. GotComparedFront file old new)

-- what a job printed, by whether the file is compared
abbrev pub PrintsBy : Bool → Job → Option (List ℕ) → Option (List ℕ) → Option (List ℕ) → Result ⊤ Stop → Type 0
PrintsBy false job held old new answer = PrintsLines job held old new answer
PrintsBy true job held old new answer = PrintsCompared held old new answer

-- all lines of `verify` were printed, and nothing else
pub record GotAll (held old new : Option (List ℕ)) : Type 0 where
  pub lines : IfSome held (λ file. GotLines Verify file None old new)
  pub reported : (right : Bool) × Reports old new right

-- When nothing is printed if a file is compared: if a header is refused or one of the takings of `verify` passes the limit, whatever the
-- answer. Over limit, and a refusal that is of no row, come either before the first line or, of the comparison, after all lines of `verify`; a
-- refusal so only of a source that does not show its bytes, which may have changed.
pub record IsSilent (held : Option (List ℕ)) (limit workers : ℕ) (Same All : Type 0) (answer : Result ⊤ Stop) : Type 0 where
  pub faulty : IfSome held (λ file. ¬ (header_fault Verify file ≡ None) → Same)
  pub past : IfSome held (λ file. IsSome (first_past limit (job_takings Verify file workers)) → Same)
  pub over_limit : IfOverLimit answer (Same ⊎ All)
  pub refused : IfRefused answer (λ x. (Same ⊎ ComesLate Verify x) ⊎ ((held ≡ None) × All))

-- when nothing is printed, by whether the file is compared
abbrev pub IsSilentBy : Bool → Job → Option (List ℕ) → ℕ → ℕ → Type 0 → Type 0 → Result ⊤ Stop → Type 0
IsSilentBy false job held limit workers Same All answer = IsUnmade job held limit workers Same answer
IsSilentBy true job held limit workers Same All answer = IsSilent held limit workers Same All answer

-- What a job that prints did to the text. The text has got the lines of the job and nothing else, after the refusal of a row those of the
-- HDUs before, and after another end a prefix of the lines. Nothing was printed if a header of the file is refused or a buffer of the job passes
-- the limit, whatever the answer, and after a refusal that comes before the lines. Its counts stay if the job was done or the file refused,
-- and if the job ends with WriteFault the text's count of faults rose. If the file is compared, one line more comes after the others.
pub record HasPrinted (compared : Bool) (job : Job) (held : Option (List ℕ)) (limit workers : ℕ) (old new : TextIs) (answer : Result ⊤ Stop) : Type 0 where
  pub lines : PrintsBy compared job held old.contents new.contents answer
  pub silent : IsSilentBy compared job held limit workers ((new.contents ≡ old.contents) × (new.tally ≡ old.tally))
      (GotAll held old.contents new.contents) answer
  pub done : OnOk answer (new.tally ≡ old.tally)
  pub refused : IsRefused answer → new.tally ≡ old.tally
  pub write_fault : IsErrOf answer StopWrite → Rose old.tally.faults new.tally.faults
  pub told : StaysTold old.contents new.contents
  pub counts : CountsKept old.tally new.tally

-- what a job did to the text; one that writes a file leaves it as it was
abbrev pub JobPrinted : Job → Bool → Option (List ℕ) → ℕ → ℕ → TextIs → TextIs → Result ⊤ Stop → Type 0
JobPrinted (Pack options) compared held limit workers old new answer = new ≡ old
JobPrinted Unpack compared held limit workers old new answer = new ≡ old
JobPrinted (Cut wanted sieve) compared held limit workers old new answer = new ≡ old
JobPrinted Verify compared held limit workers old new answer = HasPrinted compared Verify held limit workers old new answer
JobPrinted ListHdus compared held limit workers old new answer = HasPrinted compared ListHdus held limit workers old new answer
JobPrinted (Drill rows) compared held limit workers old new answer = HasPrinted compared (Drill rows) held limit workers old new answer
JobPrinted (Retile options) compared held limit workers old new answer = new ≡ old

-- the same of what the words ask for; the text is as it was if they ask for nothing
abbrev pub IsPrinted : Option Asked → Option (List ℕ) → ℕ → TextIs → TextIs → Status → Type 0
IsPrinted None held limit old new status = new ≡ old
IsPrinted (Some asked) held limit old new status =
    IfAnswer status (JobPrinted asked.job (is_compared asked) (given asked.job held) (limit_of asked limit) asked.workers old new)

-- ---- whatever the source shows

-- a text got the lines of some HDUs and then the line of the comparison, and all is right if no sum is reported as wrong and the line says yes
pub record ReportsCompared (old new : Option (List ℕ)) (right : Bool) : Type 0 where
  pub between : Option (List ℕ)
  pub sums : Bool
  pub same : Bool
  pub lines : Reports old between sums
  pub line : new ≡ appended (strict_text same) between
  pub both : right ≡ (sums && same)

-- what is reported, by whether the file is compared
abbrev pub ReportsBy : Bool → Option (List ℕ) → Option (List ℕ) → Bool → Type 0
ReportsBy false old new right = Reports old new right
ReportsBy true old new right = ReportsCompared old new right

-- the status of `verify` says what its lines say
abbrev pub ReportsAs : Bool → Status → Option (List ℕ) → Option (List ℕ) → Type 0
ReportsAs compared Done old new = ReportsBy compared old new true
ReportsAs compared Different old new = ReportsBy compared old new false
ReportsAs compared Usage old new = ⊤
ReportsAs compared (Refused x) old new = ⊤
ReportsAs compared ReadFault old new = ⊤
ReportsAs compared WriteFault old new = ⊤
ReportsAs compared (OverLimit live asked limit) old new = ⊤
ReportsAs compared NoMemory old new = ⊤

abbrev pub JobReports : Job → Bool → Option (List ℕ) → Option (List ℕ) → Status → Type 0
JobReports (Pack options) compared old new status = ⊤
JobReports Unpack compared old new status = ⊤
JobReports (Cut wanted sieve) compared old new status = ⊤
JobReports Verify compared old new status = ReportsAs compared status old new
JobReports ListHdus compared old new status = ⊤
JobReports (Drill rows) compared old new status = ⊤
JobReports (Retile options) compared old new status = ⊤

-- the same of what the words ask for
abbrev pub IsReported : Option Asked → Option (List ℕ) → Option (List ℕ) → Status → Type 0
IsReported None old new status = ⊤
IsReported (Some asked) old new status = JobReports asked.job (is_compared asked) old new status
