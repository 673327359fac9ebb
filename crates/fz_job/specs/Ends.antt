-- How the cause, the answer and the peak of a job that answers with an X follow from what its stages say.
use Rattle.std.specs.Prelude.{ℕ, ◌≡◌, ◌+◌, ◌≤◌, ◌^◌, max, List, sum, Option, None, IfSome, IfErr, Result, Err}
use Rattle.fz_base.specs.Counts.{Tally}
use Rattle.fz_base.specs.Meter.{Gauge, RefusedFor, handed_back, taken}
use Rattle.fz_base.specs.Stop.{ReadsAndTakes, StoppedTaking, TellsLimit, stop_of_short}
use Rattle.fz_base.specs.Takings.{TellsFirstPast, TellsShort, first_past, highest, piled}
use Rattle.fz_base.specs.declared.failure.Short.{Short}
use Rattle.fz_base.specs.declared.failure.Stop.{Stop}
use Rattle.fz_files.specs.Buffers.{IsOfFile, job_bound, job_buffers, job_takings, workers_of}
use Rattle.fz_files.specs.declared.job.Job.{Job}
use Rattle.fz_pool.specs.Window.{Pool, WindowStays}
use Rattle.fz_job.specs.Clauses.{Answers, HasJobCause, TellsFirstFault, greatest_bound}
use Rattle.fz_job.specs.Keeps.{Rewrites, StoppedRewriting}
use Rattle.fz_job.specs.Surveys.{survey_takings}
use Rattle.fz_job.specs.Takes.{TellsTheLimit}
use Rattle.fz_job.specs.Workspace.{HasLengths, SpaceStays, held_bytes, wanted_buffers, window_for}
use Rattle.fz_job.specs.declared.checks.JobChecks.{JobChecks}
use Rattle.fz_job.specs.declared.survey.Survey.{Survey}
use Rattle.fz_job.specs.declared.workspace.Wants.{Wants}
use Rattle.fz_job.specs.declared.workspace.Workspace.{Workspace}
use Rattle.fz_job.specs.Stages.{HasLargest, HasStages, MakesChecks, StoppedWorking, TellsHeaderFault, Works, later_takings, wants_of}

-- The first block.
pub record BlockEnds (X : Type 0) : Type 0 where
  -- it was not given: this is the cause of the job's end
  pub short : (job : Job) (held : Option (List ℕ)) (source sink : Tally) (workers : ℕ) (meter : Gauge) (short : Short) → HasStages job →
      meter.live ≡ 0 → RefusedFor meter 2880 short →
      HasJobCause {X = X} job held source source sink sink meter.limit workers (Err (stop_of_short short))
  -- it was given: the cause of the answer of the later stages is that of the job's
  pub behind : (job : Job) (held : Option (List ℕ)) (source source' sink sink' : Tally) (limit workers : ℕ) (r : Result X Stop) →
      HasStages job → 2880 ≤ limit → Works source source' sink sink' limit r →
      TellsLimit limit (greatest_bound job workers) r →
      IfSome held (λ file. TellsFirstPast limit (later_takings job file (workers_of job workers)) r) →
      HasJobCause job held source source' sink sink' limit workers r

-- The look at the headers, if it ends the job.
pub record LookEnds (X : Type 0) : Type 0 where
  -- the fault of the headers is the first fault of the file
  pub fault : (job : Job) (held : Option (List ℕ)) (stop : Stop) → TellsHeaderFault job held stop → TellsFirstFault {X = X} job held (Err stop)
  -- the counts are those of the look: nothing was written
  pub works : (before now sink : Tally) (limit : ℕ) (stop : Stop) → ReadsAndTakes {X = Survey} before now limit (Err stop)
      → Works {X = X} before now sink sink limit (Err stop)
  -- the first header that passes the limit is the first of all that is taken after the block
  pub first_past : (job : Job) (checks : JobChecks) (held : Option (List ℕ)) (W live limit : ℕ) (stop : Stop) (before now : Tally) →
      MakesChecks job checks → live ≡ 2880 → StoppedTaking before now limit stop →
      TellsHeaderFault job held stop → IfSome held (λ file. TellsFirstPast {X = Survey} limit (survey_takings checks live file) (Err stop)) →
      IfSome held (λ file. TellsFirstPast {X = X} limit (later_takings job file W) (Err stop))
  -- and no more than the greatest bound
  pub over_limit : (job : Job) (workers live limit : ℕ) (stop : Stop) → live ≡ 2880
      → TellsLimit {X = Survey} limit (live + 737280) (Err stop) → TellsLimit {X = X} limit (greatest_bound job workers) (Err stop)

-- The work after a look that refuses nothing: it takes all buffers at once, and then no others.
pub record WorkEnds (X : Type 0) : Type 0 where
  -- the buffers were not given: the counts stay, and the first that passes the limit is given
  pub short_works : (source sink : Tally) (limit : ℕ) (short : Short) → TellsTheLimit limit short
      → Works {X = X} source source sink sink limit (Err (stop_of_short short))
  pub short_past : (limit : ℕ) (takings : List (ℕ × ℕ)) (short : Short) → TellsShort {X = Workspace} limit takings (Err short)
      → TellsFirstPast {X = X} limit takings (Err (stop_of_short short))
  -- they were given: the counts are those of what reads and writes after that, and no taking passes the limit
  pub works : (source source' sink sink' : Tally) (limit : ℕ) (r : Result X Stop) → Rewrites source source' sink sink' r
      → Works source source' sink sink' limit r
  pub past : (source source' sink sink' : Tally) (limit : ℕ) (takings : List (ℕ × ℕ)) (r : Result X Stop)
      → IfErr r (StoppedRewriting source source' sink sink') → first_past limit takings ≡ None → TellsFirstPast limit takings r
  -- the first of them that passes the limit is the first of all that is taken after the block
  pub first_past : (job : Job) (checks : JobChecks) (held : Option (List ℕ)) (W live limit H n : ℕ) (r : Result X Stop) →
      MakesChecks job checks → live ≡ 2880 → IfSome held (HasLargest job H n) →
      IfSome held (λ file. first_past limit (survey_takings checks live file) ≡ None) →
      TellsFirstPast limit (piled live (wanted_buffers (wants_of job H n) W)) r →
      IfSome held (λ file. TellsFirstPast limit (later_takings job file W) r)
  -- and no more than the greatest bound
  pub over_limit : (job : Job) (workers live limit H n : ℕ) (source source' sink sink' : Tally) (r : Result X Stop) → HasStages job →
      live ≡ 2880 → H ≤ 737280 → n ≤ 2 ^ 26 → IfErr r (StoppedWorking source source' sink sink' limit) →
      TellsFirstPast limit (piled live (wanted_buffers (wants_of job H n) (workers_of job workers))) r → TellsLimit limit (greatest_bound job workers) r

-- If the cause of a job's end is known, and no count of faults rose, and the limit is at least the bound, the answer is Ok or Refused, or
-- there was no memory.
abbrev pub CausesAnswer : Type 0 → Type 0
CausesAnswer X =
    (job : Job) (held : Option (List ℕ)) (source source' sink sink' : Tally) (limit workers : ℕ) (r : Result X Stop) → IsOfFile job →
    HasJobCause job held source source' sink sink' limit workers r → Answers job held source source' sink sink' limit workers r

-- If the bytes of the file are shown, the peak is at most that before the job or the bound of the job.
pub record PeaksStayWithin : Type 0 where
  -- with the block, if it is so after the block
  pub block : (job : Job) (held : Option (List ℕ)) (workers old mid new : ℕ) → mid ≤ max old 2880
      → IfSome held (λ file. new ≤ max mid (job_bound job file workers)) → IfSome held (λ file. new ≤ max old (job_bound job file workers))
  -- after the look
  pub look : (job : Job) (checks : JobChecks) (held : Option (List ℕ)) (workers live old new : ℕ) → MakesChecks job checks → live ≡ 2880 →
      IfSome held (λ file. new ≤ max old (highest (survey_takings checks live file))) →
      IfSome held (λ file. new ≤ max old (job_bound job file workers))
  -- and after the work
  pub work : (job : Job) (checks : JobChecks) (held : Option (List ℕ)) (workers live old mid new H n : ℕ) → MakesChecks job checks →
      live ≡ 2880 → IfSome held (HasLargest job H n) →
      IfSome held (λ file. mid ≤ max old (highest (survey_takings checks live file))) →
      new ≤ max mid (live + sum (wanted_buffers (wants_of job H n) (workers_of job workers))) →
      IfSome held (λ file. new ≤ max old (job_bound job file workers))

-- If the bytes of the file are shown, the peak after a job that is done is the greater of that before the job and of the greatest sum of its
-- takings.
pub record PeaksAreReached : Type 0 where
  -- with the block, if it is so after the block
  pub block : (job : Job) (held : Option (List ℕ)) (workers old mid new : ℕ) → HasStages job → mid ≡ max old 2880 →
      IfSome held (λ file. new ≡ max mid (highest (later_takings job file (workers_of job workers)))) →
      IfSome held (λ file. new ≡ max old (highest (job_takings job file workers)))
  -- and after the work
  pub work : (job : Job) (checks : JobChecks) (held : Option (List ℕ)) (W live old mid new H n : ℕ) → MakesChecks job checks → live ≡ 2880 →
      IfSome held (HasLargest job H n) →
      IfSome held (λ file. mid ≡ max old (highest (survey_takings checks live file))) → new ≡ max mid (live + sum (wanted_buffers (wants_of job H n) W)) →
      IfSome held (λ file. new ≡ max old (highest (later_takings job file W)))

-- Which taking passes the limit first is decided by the later stages, if none of the stages so far did.
pub record PassesLater : Type 0 where
  -- after the block
  pub block : (job : Job) (held : Option (List ℕ)) (limit workers : ℕ) → HasStages job → 2880 ≤ limit →
      IfSome held (λ file. first_past limit (job_takings job file workers) ≡ first_past limit (later_takings job file (workers_of job workers)))
  -- after the look
  pub look : (job : Job) (checks : JobChecks) (held : Option (List ℕ)) (W live limit H n : ℕ) → MakesChecks job checks → live ≡ 2880 →
      IfSome held (HasLargest job H n) →
      IfSome held (λ file. first_past limit (survey_takings checks live file) ≡ None) →
      IfSome held (λ file. first_past limit (later_takings job file W) ≡ first_past limit (piled live (wanted_buffers (wants_of job H n) W)))

-- What the stages take, with the block: headers of at most 256 blocks and tiles of at most 2^26 pixels, which are the most that this program takes,
-- fit the greatest bound; and what is wanted is what the definition of the job's buffers says.
pub record SizesFit : Type 0 where
  pub look : (job : Job) (workers : ℕ) → 2880 + 737280 ≤ greatest_bound job workers
  pub work : (job : Job) (workers H n : ℕ) → HasStages job → H ≤ 737280 → n ≤ 2 ^ 26
      → 2880 + sum (wanted_buffers (wants_of job H n) (workers_of job workers)) ≤ greatest_bound job workers
  pub wanted : (job : Job) (H n W : ℕ) → HasStages job → job_buffers job H n W ≡ wanted_buffers (wants_of job H n) W

-- Buffers that were taken are as many bytes as were taken, as long as none of them changes its length; and a meter that was handed back as many bytes
-- as it gave has as many live as before, the same limit, and as its peak the greater of that before and of what was live with them.
pub record BuffersComeBack : Type 0 where
  pub kept : (wants : Wants) (w w' : Workspace) (W : ℕ) (pool pool' : Pool) → HasLengths wants w → SpaceStays w w'
      → pool ≡ window_for W wants.tile → WindowStays pool pool' → held_bytes w' pool' ≡ sum (wanted_buffers wants W)
  pub given : (old mid new : Gauge) (total bytes : ℕ) → mid ≡ taken old total → bytes ≡ total → new ≡ handed_back mid bytes
      → (new.live ≡ old.live) × (new.limit ≡ old.limit) × (new.peak ≡ max old.peak (old.live + total))
