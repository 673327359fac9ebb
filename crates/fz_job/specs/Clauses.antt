-- What a job promises that writes a sink, in the same words for all such jobs.
use Rattle.std.specs.Prelude.{ℕ, ◌≡◌, ◌⊎◌, ◌<◌, ◌≤◌, ◌^◌, max, List, [], Option, Some, None, IfSome, IsSome, Result, Ok, Err, OnOk, OnErr, IsErrOf, ⊤}
use Rattle.fz_base.specs.Counts.{Rose, Tally, CountsKept}
use Rattle.fz_base.specs.FirstByte.{IsShut}
use Rattle.fz_base.specs.Meter.{Gauge}
use Rattle.fz_base.specs.Refusal.{refusal}
use Rattle.fz_base.specs.JobBuffers.{buffer_bound}
use Rattle.fz_base.specs.Stop.{IfRefused, IsRefused, TellsLimit}
use Rattle.fz_base.specs.Takings.{TellsFirstPast, first_past}
use Rattle.fz_base.specs.declared.failure.Stop.{Stop}
use Rattle.fz_base.specs.declared.fault.Fault.{Fault}
use Rattle.fz_base.specs.declared.fault.Place.TheVariants.{Card, Row}
use Rattle.fz_base.specs.declared.kind.Kind.TheVariants.{BadCard}
use Rattle.fz_base.specs.declared.failure.Stop.TheVariants.{Refused, ReadFault, WriteFault, OverLimit, NoMemory}
use Rattle.fz_pool.specs.Window.{Pool}
use Rattle.fz_files.specs.Buffers.{job_bound, job_takings, workers_of}
use Rattle.fz_files.specs.FirstFault.{IsFirstFault}
use Rattle.fz_files.specs.Walks.{header_fault}
use Rattle.fz_files.specs.declared.job.Job.{Job}
use Rattle.fz_files.specs.declared.job.Job.TheVariants.{Pack, Unpack, Cut, Verify, List as ListHdus, Drill, Retile}

-- the contents, if they and the bytes of the source are shown, are an output of the bytes
abbrev pub HoldsOutput : (List ℕ → List ℕ → Type 0) → Option (List ℕ) → Option (List ℕ) → Type 0
HoldsOutput Output held contents = IfSome held (λ file. IfSome contents (Output file))

-- after Ok the file has no fault for the job, and after Refused x its first fault is x
abbrev pub TellsFirstFault : {X : Type 0} → Job → Option (List ℕ) → Result X Stop → Type 0
TellsFirstFault job held (Ok x) = IfSome held (λ file. IsFirstFault job file None)
TellsFirstFault job held (Err (Refused x)) = IfSome held (λ file. IsFirstFault job file (Some x))
TellsFirstFault job held (Err ReadFault) = ⊤
TellsFirstFault job held (Err WriteFault) = ⊤
TellsFirstFault job held (Err (OverLimit live asked limit)) = ⊤
TellsFirstFault job held (Err NoMemory) = ⊤

-- the answer is Ok or Refused, or there was no memory
abbrev pub IsAnswer : {X : Type 0} → Result X Stop → Type 0
IsAnswer (Ok x) = ⊤
IsAnswer (Err (Refused x)) = ⊤
IsAnswer (Err ReadFault) = ⊥
IsAnswer (Err WriteFault) = ⊥
IsAnswer (Err (OverLimit live asked limit)) = ⊥
IsAnswer (Err NoMemory) = ⊤

-- if no count of faults rose, and the limit is at least the bound of the job, the answer is one of these
abbrev pub Answers : {X : Type 0} → Job → Option (List ℕ) → Tally → Tally → Tally → Tally → ℕ → ℕ → Result X Stop → Type 0
Answers job held source source' sink sink' limit workers result =
    ¬ Rose source.faults source'.faults → ¬ Rose sink.faults sink'.faults
    → IfSome held (λ file. job_bound job file workers ≤ limit → IsAnswer result)

-- the most pixels that a tile has that a job on a file works on, for `drill` the same; `list` works on no tiles
abbrev pub greatest_tile : Job → ℕ
greatest_tile (Pack o) = 2 ^ 26
greatest_tile Unpack = 2 ^ 26
greatest_tile (Cut wanted sieve) = 2 ^ 26
greatest_tile Verify = 2 ^ 26
greatest_tile ListHdus = 0
greatest_tile (Drill rows) = 2 ^ 26
greatest_tile (Retile o) = 2 ^ 26

-- the greatest bound that a job has, whatever the file: no header is longer than 256 blocks
abbrev pub greatest_bound : Job → ℕ → ℕ
greatest_bound job asked = buffer_bound 737280 (greatest_tile job) (workers_of job asked)

-- Why a job ended as it did: after Ok and after Refused no count rose; the two faults come only if that of the source or of the sink
-- rose; OverLimit shows the limit and what passes it, which is never
-- more than the greatest bound; it is the first of the job's takings that passes the limit, and comes if one does. The first taking, of one
-- block, comes before anything is read: a limit below that decides by itself.
pub record HasJobCause
    {X : Type 0} (job : Job) (held : Option (List ℕ)) (source source' sink sink' : Tally) (limit workers : ℕ)
    (result : Result X Stop) : Type 0 where
  pub done : OnOk result ((source' ≡ source) × (sink' ≡ sink))
  pub refused : IsRefused result → (source' ≡ source) × (sink' ≡ sink)
  pub read_fault : IsErrOf result ReadFault → Rose source.faults source'.faults
  pub write_fault : IsErrOf result WriteFault → Rose sink.faults sink'.faults
  pub over_limit : TellsLimit limit (greatest_bound job workers) result
  pub first_past : IfSome held (λ file. TellsFirstPast limit (job_takings job file workers) result)
  pub block : limit < 2880 → IsErrOf result (OverLimit 0 2880 limit) × (source' ≡ source) × (sink' ≡ sink)

-- After an error the contents are empty, or begin with another byte than S; or they are the whole output, of which byte 0 came last, and
-- then the answer is WriteFault or NoMemory. So the contents are shut after every other error, also of a source that does not show its
-- bytes.
abbrev pub IsShutOrWhole : {X : Type 0} → Option (List ℕ) → Type 0 → Result X Stop → Type 0
IsShutOrWhole contents Whole result = OnErr result (IsShut contents ⊎ (Whole × (IsErrOf result WriteFault ⊎ IsErrOf result NoMemory)))

-- a fact of an answer OverLimit
abbrev pub IfOverLimit : {X : Type 0} → Result X Stop → Type 0 → Type 0
IfOverLimit (Ok x) P = ⊤
IfOverLimit (Err (Refused x)) P = ⊤
IfOverLimit (Err ReadFault) P = ⊤
IfOverLimit (Err WriteFault) P = ⊤
IfOverLimit (Err (OverLimit live asked limit)) P = P
IfOverLimit (Err NoMemory) P = ⊤

-- the refusal of an HDU of which the source gave other bytes at the second reading than at the first
abbrev pub IsChanged : Fault → Type 0
IsChanged x = x ≡ refusal x.hdu (Card 0) BadCard

-- the refusal of a row, whatever row it is
abbrev pub IsOfSomeRow : Fault → Type 0
IsOfSomeRow x = (row : ℕ) × (x.at ≡ Row row)

-- The faults that a job may give after its first look: that of an HDU which changed, and, of a job that reads rows, that of a row.
abbrev pub ComesLate : Job → Fault → Type 0
ComesLate (Pack o) x = IsChanged x
ComesLate Unpack x = IsChanged x ⊎ IsOfSomeRow x
ComesLate (Cut wanted sieve) x = IsChanged x ⊎ IsOfSomeRow x
ComesLate Verify x = IsChanged x ⊎ IsOfSomeRow x
ComesLate ListHdus x = IsChanged x
ComesLate (Drill rows) x = ⊥
ComesLate (Retile o) x = IsChanged x ⊎ IsOfSomeRow x

-- The sink is not made if a header of the file is refused or one of these takings passes the limit, whatever the answer, nor after OverLimit.
-- A refusal leaves it unmade too, except one that comes after the first look.
pub record StaysUnmade
    {X : Type 0} (job : Job) (held : Option (List ℕ)) (limit : ℕ) (takings : List ℕ → List (ℕ × ℕ)) (Same : Type 0)
    (result : Result X Stop) : Type 0 where
  pub faulty : IfSome held (λ file. ¬ (header_fault job file ≡ None) → Same)
  pub past : IfSome held (λ file. IsSome (first_past limit (takings file)) → Same)
  pub over_limit : IfOverLimit result Same
  pub refused : IfRefused result (λ x. Same ⊎ ComesLate job x)

-- the same of all takings of a job that is asked for so many workers
abbrev pub IsUnmade : {X : Type 0} → Job → Option (List ℕ) → ℕ → ℕ → Type 0 → Result X Stop → Type 0
IsUnmade job held limit asked Same result = StaysUnmade job held limit (λ file. job_takings job file asked) Same result

-- Nothing is live, the limit stays, the peak is at most that before or the bound of the job, and the window is empty. Of a file that does
-- not show its bytes the greatest bound is said.
pub record KeepsBuffers (job : Job) (held : Option (List ℕ)) (old new : Gauge) (window window' : Pool) : Type 0 where
  pub live : new.live ≡ 0
  pub limit : new.limit ≡ old.limit
  pub peak : IfSome held (λ file. new.peak ≤ max old.peak (job_bound job file window.workers))
  pub most : new.peak ≤ max old.peak (greatest_bound job window.workers)
  pub window_is : window' ≡ record { slots = []; workers = window.workers }

-- what the source holds and how long it is stays, and no count falls
pub record KeepsSource (held held' : Option (List ℕ)) (attached attached' : Option ℕ) (source source' sink sink' : Tally) : Type 0 where
  pub held_is : held' ≡ held
  pub attached_is : attached' ≡ attached
  pub source_counts : CountsKept source source'
  pub sink_counts : CountsKept sink sink'
