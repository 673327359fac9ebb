-- How a job on files in memory ends of which it refuses nothing.
use Rattle.std.specs.Prelude.{Option, Some, None, Result, Ok, Err, OnOk}
use Rattle.std.proofs.Common.{◌≡◌, inl, ℕ, ◌+◌, ◌<◌, ◌≤◌, max, List, refl, sym, ap, ◌∙◌, subst, arith}
use Rattle.fz_base.specs.Counts.{Tally, uncounted}
use Rattle.fz_base.specs.Meter.{Gauge}
use Rattle.fz_base.specs.Takings.{PastWithinLaw, first_past, highest}
use Rattle.fz_base.specs.declared.fault.Fault.{Fault}
use Rattle.fz_base.specs.declared.failure.Stop.{Stop}
use Rattle.fz_base.specs.declared.failure.Stop.TheVariants.{Refused, ReadFault, WriteFault, OverLimit, NoMemory}
use Rattle.fz_pool.specs.Window.{IsEmpty, Pool}
use Rattle.fz_files.specs.Buffers.{AreBounded, IsOfFile, job_bound, job_takings}
use Rattle.fz_files.specs.FirstFault.{IsFirstFault}
use Rattle.fz_files.specs.Laws.{HasOneFirstFault}
use Rattle.fz_files.specs.declared.job.Job.{Job}
use Rattle.fz_job.specs.Clauses.{HasJobCause, KeepsBuffers, TellsFirstFault}
use Rattle.fz_drill.specs.Bound.{drill_bound}
use Rattle.fz_drill.specs.Outcomes.{BlockDecides, KeepsAll, Stops, in_memory}

-- the job refuses nothing of the file, and stays within the bound
pub record IsSafe (job : Job) (file : List ℕ) (rows : ℕ) : Type 0 where
  pub of_file : IsOfFile job
  pub sound : IsFirstFault job file None
  pub bound : job_bound job file 4 ≤ drill_bound rows

module _ (past_within : PastWithinLaw) (bounded : AreBounded) (one : HasOneFirstFault) (job : Job) (file : List ℕ) (rows limit : ℕ) (safe : IsSafe job file rows) where
  -- no taking is more than the bound
  within_bound : (live asked : ℕ) → first_past limit (job_takings job file 4) ≡ Some (live, asked) → live + asked ≤ drill_bound rows
  within_bound live asked past =
      let within : live + asked ≤ job_bound job file 4 = past_within limit (job_bound job file 4) (job_takings job file 4) (live, asked) (bounded job file 4 safe.of_file) past in
      omega (arith, within, safe.bound)

  pub stops_by : (X Y : Type 0) (sink sink' : Tally) (stop : Stop) → TellsFirstFault {X = X} job (Some file) (Err stop) →
      HasJobCause {X = X} job (Some file) uncounted uncounted sink sink' limit 4 (Err stop) → Stops {X = Y} rows (job_takings job file 4) limit (Err (in_memory stop))
  stops_by X Y sink sink' (Refused x) fault cause =
      let never : ◌≡◌ {A = Option Fault} (Some x) None = one job file (Some x) None fault safe.sound in
      absurd cc
  stops_by X Y sink sink' ReadFault fault cause = absurd (omega (arith, cause.read_fault refl))
  stops_by X Y sink sink' WriteFault fault cause = record { stop = tt; over_limit = tt; first_past = tt }
  stops_by X Y sink sink' (OverLimit live asked told) fault cause =
      let passes : limit < live + asked = cause.over_limit.1 in
      let within : live + asked ≤ drill_bound rows = within_bound live asked cause.first_past in
      record { stop = omega (arith, passes, within); over_limit = (cause.over_limit.0, passes, within); first_past = cause.first_past }
  stops_by X Y sink sink' NoMemory fault cause = record { stop = tt; over_limit = tt; first_past = tt }

  -- the same of what is said of bytes that are those of the file, and of a number of workers that is four
  pub stops_from : {X : Type 0} (Y : Type 0) (items : List ℕ) (w : ℕ) {sink sink' : Tally} (stop : Stop) → items ≡ file → w ≡ 4 → TellsFirstFault {X = X} job (Some items) (Err stop) →
      HasJobCause {X = X} job (Some items) uncounted uncounted sink sink' limit w (Err stop) → Stops {X = Y} rows (job_takings job file 4) limit (Err (in_memory stop))
  stops_from {X} Y items w {sink} {sink'} stop same four fault cause =
      stops_by X Y sink sink' stop (subst (λ f. TellsFirstFault {X = X} job (Some f) (Err stop)) same fault)
      (subst (λ n. HasJobCause {X = X} job (Some file) uncounted uncounted sink sink' limit n (Err stop)) four
      (subst (λ f. HasJobCause {X = X} job (Some f) uncounted uncounted sink sink' limit w (Err stop)) same cause))

  pub done_by : (X Y : Type 0) (sink sink' : Tally) (done : X) (answer : Y) → HasJobCause job (Some file) uncounted uncounted sink sink' limit 4 (Ok done) →
      Stops rows (job_takings job file 4) limit (Ok answer)
  done_by X Y sink sink' done answer cause = record { stop = tt; over_limit = tt; first_past = cause.first_past }

pub keeps_all : (job : Job) (file : List ℕ) (rows : ℕ) (old new : Gauge) (window window' : Pool) → IsSafe job file rows → IsEmpty window → window.workers ≡ 4 →
    KeepsBuffers job (Some file) old new window window' → KeepsAll rows old new window window'
keeps_all job file rows old new window window' safe empty four keeps =
    let peak : new.peak ≤ max old.peak (job_bound job file 4) = subst (λ n. new.peak ≤ max old.peak (job_bound job file n)) four keeps.peak in
    record {
      live = keeps.live;
      limit = keeps.limit;
      peak = omega (arith, peak, safe.bound);
      window_is = keeps.window_is ∙ ap (λ s. record { slots = s; workers = window.workers }) (sym empty);
    }

-- the same of the peak of a job that is done
pub peak_from : (job : Job) (file items : List ℕ) (w old new : ℕ) → items ≡ file → w ≡ 4 → new ≡ max old (highest (job_takings job items w)) → new ≡ max old (highest (job_takings job file 4))
peak_from job file items w old new same four reached = reached ∙ (λ i. max old (highest (job_takings job (same i) (four i))))

pub ok_always : {X : Type 0} (r : Result X Stop) (P : Type 0) → P → OnOk r P
ok_always (Ok x) P is = is
ok_always (Err stop) P is = tt

-- the first taking decides where it passes the limit
pub block_by : (X Y : Type 0) (job : Job) (file : List ℕ) (limit : ℕ) (sink sink' : Tally) (stop : Stop) →
    HasJobCause {X = X} job (Some file) uncounted uncounted sink sink' limit 4 (Err stop) → BlockDecides {X = Y} limit (Err (in_memory stop))
block_by X Y job file limit sink sink' stop cause = λ low.
    let decided : ◌≡◌ {A = Result X Stop} (Err stop) (Err (OverLimit 0 2880 limit)) = (cause.block low).0 in
    let is : stop ≡ OverLimit 0 2880 limit = cc in
    inl (ap (λ s. Err (in_memory s)) is)

pub block_done : (X Y : Type 0) (job : Job) (file : List ℕ) (limit : ℕ) (sink sink' : Tally) (done : X) (r : Result Y Stop) →
    HasJobCause job (Some file) uncounted uncounted sink sink' limit 4 (Ok done) → BlockDecides limit r
block_done X Y job file limit sink sink' done r cause = λ low.
    let never : ◌≡◌ {A = Result X Stop} (Ok done) (Err (OverLimit 0 2880 limit)) = (cause.block low).0 in
    absurd cc
