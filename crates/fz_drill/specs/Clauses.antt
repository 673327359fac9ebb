-- What `drill` promises. It reads no source and writes no sink that it is given, so it refuses nothing, and reads nothing that fails.
use Rattle.std.specs.Prelude.{ℕ, ◌≡◌, ◌⊎◌, ◌<◌, ◌≤◌, max, List, Option, IsSome, Result, Ok, Err, OnOk, IfErr, IsErrOf, ⊤}
use Rattle.fz_base.specs.Counts.{Rose, Tally, CountsKept}
use Rattle.fz_base.specs.Meter.{Gauge}
use Rattle.fz_base.specs.Sink.{MayAppend, appended}
use Rattle.fz_base.specs.Stop.{TellsLimit}
use Rattle.fz_base.specs.Takings.{TellsFirstPast, first_past}
use Rattle.fz_base.specs.declared.failure.Stop.{Stop}
use Rattle.fz_base.specs.declared.failure.Stop.TheVariants.{Refused, ReadFault, WriteFault, OverLimit, NoMemory}
use Rattle.fz_files.specs.Drill.{drill_lines}
use Rattle.fz_job.specs.Clauses.{IfOverLimit}
use Rattle.fz_drill.specs.Bound.{drill_bound, takings_of}

-- after Ok the text has got the lines of `drill` and nothing else, and after every other answer a prefix of them
abbrev pub PrintsLines : {X : Type 0} → ℕ → Option (List ℕ) → Option (List ℕ) → Result X Stop → Type 0
PrintsLines rows old new (Ok x) = new ≡ appended (drill_lines rows) old
PrintsLines rows old new (Err stop) = MayAppend (drill_lines rows) old new

-- the answer is Ok, or there was no memory
abbrev pub IsDone : {X : Type 0} → Result X Stop → Type 0
IsDone (Ok x) = ⊤
IsDone (Err (Refused x)) = ⊥
IsDone (Err ReadFault) = ⊥
IsDone (Err WriteFault) = ⊥
IsDone (Err (OverLimit live asked limit)) = ⊥
IsDone (Err NoMemory) = ⊤

-- if no count of the text's faults rose, and the limit is at least the bound, it is done
abbrev pub Answers : {X : Type 0} → ℕ → Tally → Tally → ℕ → Result X Stop → Type 0
Answers rows text text' limit result = ¬ Rose text.faults text'.faults → drill_bound rows ≤ limit → IsDone result

-- why it stopped
abbrev pub StoppedDrilling : Tally → Tally → Stop → Type 0
StoppedDrilling text text' (Refused x) = ⊥
StoppedDrilling text text' ReadFault = ⊥
StoppedDrilling text text' WriteFault = Rose text.faults text'.faults
StoppedDrilling text text' (OverLimit live asked limit) = text' ≡ text
StoppedDrilling text text' NoMemory = ⊤

-- OverLimit shows the limit, and the first of the takings of all jobs that passes it, which is never more than the bound; it comes if one
-- does. A limit below the first taking, of one block, decides by itself, if there was memory for the files.
pub record HasDrillCause {X : Type 0} (rows : ℕ) (text text' : Tally) (limit : ℕ) (result : Result X Stop) : Type 0 where
  pub kept : CountsKept text text'
  pub done : OnOk result (text' ≡ text)
  pub stop : IfErr result (StoppedDrilling text text')
  pub over_limit : TellsLimit limit (drill_bound rows) result
  pub first_past : TellsFirstPast limit (takings_of rows) result
  pub block : limit < 2880 → IsErrOf result (OverLimit 0 2880 limit) ⊎ IsErrOf result NoMemory

-- nothing is printed if one of the takings passes the limit, whatever the answer, and so not after OverLimit
pub record IsSilent {X : Type 0} (rows limit : ℕ) (old new : Option (List ℕ)) (text text' : Tally) (result : Result X Stop) : Type 0 where
  pub past : IsSome (first_past limit (takings_of rows)) → (new ≡ old) × (text' ≡ text)
  pub over_limit : IfOverLimit result ((new ≡ old) × (text' ≡ text))

-- nothing is live, the limit stays, and the peak is at most that before or the bound
pub record KeepsMeter (rows : ℕ) (old new : Gauge) : Type 0 where
  pub live : new.live ≡ 0
  pub limit : new.limit ≡ old.limit
  pub peak : new.peak ≤ max old.peak (drill_bound rows)
