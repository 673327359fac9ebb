-- What a job promises that prints lines, beside what every job promises: the text takes the place of the sink.
use Rattle.std.specs.Prelude.{ℕ, ◌≡◌, ◌≤◌, max, not, Bool, List, Option, Some, None, IfSome, Result, Ok, Err}
use Rattle.fz_base.specs.Meter.{Gauge}
use Rattle.fz_base.specs.Sink.{MayAppend, appended}
use Rattle.fz_base.specs.declared.fault.Fault.{Fault}
use Rattle.fz_base.specs.declared.failure.Stop.{Stop}
use Rattle.fz_base.specs.declared.failure.Stop.TheVariants.{Refused, ReadFault, WriteFault, OverLimit, NoMemory}
use Rattle.fz_files.specs.Buffers.{job_bound}
use Rattle.fz_files.specs.FirstFault.{IsFirstFault}
use Rattle.fz_files.specs.Lines.{has_wrong_sums, report_lines}
use Rattle.fz_files.specs.declared.job.Job.{Job}
use Rattle.fz_job.specs.Clauses.{greatest_bound}

-- shown text with the lines of a job after it, for a file of which this is the first fault, or none
abbrev pub GotLines : Job → List ℕ → Option Fault → Option (List ℕ) → Option (List ℕ) → Type 0
GotLines job file fault old new = new ≡ appended (report_lines job file fault) old

-- a prefix of the lines, whatever the first fault of the file is
abbrev pub GotFront : Job → List ℕ → Option (List ℕ) → Option (List ℕ) → Type 0
GotFront job file old new = (fault : Option Fault) → IsFirstFault job file fault → MayAppend (report_lines job file fault) old new

-- After Ok the text has got the lines of the job and nothing else, and after Refused those of a file with this first fault: none if a
-- header is refused, and if a row is, those of the HDUs before. After every other answer it has got a prefix of the lines.
abbrev pub PrintsLines : {X : Type 0} → Job → Option (List ℕ) → Option (List ℕ) → Option (List ℕ) → Result X Stop → Type 0
PrintsLines job held old new (Ok x) = IfSome held (λ file. GotLines job file None old new)
PrintsLines job held old new (Err (Refused x)) = IfSome held (λ file. GotLines job file (Some x) old new)
PrintsLines job held old new (Err ReadFault) = IfSome held (λ file. GotFront job file old new)
PrintsLines job held old new (Err WriteFault) = IfSome held (λ file. GotFront job file old new)
PrintsLines job held old new (Err (OverLimit live asked limit)) = IfSome held (λ file. GotFront job file old new)
PrintsLines job held old new (Err NoMemory) = IfSome held (λ file. GotFront job file old new)

-- a file is right exactly if no sum of an HDU is wrong that its header has
abbrev pub IsRightAsSaid : Bool → List ℕ → Type 0
IsRightAsSaid right file = right ≡ not (has_wrong_sums file)

-- Nothing is live, the limit stays, and the peak is at most that before or the bound of the job. Of a file that does not show its bytes
-- the greatest bound is said.
pub record KeepsMeter (job : Job) (held : Option (List ℕ)) (old new : Gauge) : Type 0 where
  pub live : new.live ≡ 0
  pub limit : new.limit ≡ old.limit
  pub peak : IfSome held (λ file. new.peak ≤ max old.peak (job_bound job file 1))
  pub most : new.peak ≤ max old.peak (greatest_bound job 1)
