-- The look learnt what the work wants; the buffers for it were not given, or they were, and the work took no others.
use Rattle.std.proofs.Common.{◌≡◌, ◌^◌, ℕ, ◌+◌, ◌≤◌, max, List, drop, sym, ap, ◌∙◌, arith}
use Rattle.std.specs.Prelude.{Option, Some, None, IfSome, IfErr, Result, Ok, Err, sum}
use Rattle.fz_base.specs.Counts.{Tally}
use Rattle.fz_base.specs.Stop.{TellsLimit, stop_of_short}
use Rattle.fz_base.specs.Takings.{PastSecondLaw, TellsFirstPast, TellsShort, first_past, highest, piled}
use Rattle.fz_base.specs.declared.failure.Short.{Short}
use Rattle.fz_base.specs.declared.failure.Short.TheVariants.{NoMemory as NoRoom, OverLimit as PastLimit}
use Rattle.fz_base.specs.declared.failure.Stop.{Stop}
use Rattle.fz_base.specs.declared.failure.Stop.TheVariants.{Refused, ReadFault, WriteFault, OverLimit, NoMemory}
use Rattle.fz_files.specs.Buffers.{AreBounded, header_takings, job_bound, work_takings, workers_of}
use Rattle.fz_files.specs.Walks.{header_fault}
use Rattle.fz_files.specs.declared.job.Job.{Job}
use Rattle.fz_job.specs.Clauses.{greatest_bound, greatest_tile}
use Rattle.fz_job.specs.Keeps.{Rewrites, StoppedRewriting}
use Rattle.fz_job.specs.Surveys.{survey_takings}
use Rattle.fz_job.specs.Takes.{TellsTheLimit}
use Rattle.fz_job.specs.Workspace.{BoundGrows, PassesWithinAll, StaysInBound, pixels_of, wanted_buffers}
use Rattle.fz_job.specs.declared.checks.JobChecks.{JobChecks}
use Rattle.fz_job.specs.declared.workspace.Wants.{Wants}
use Rattle.fz_job.specs.declared.workspace.Workspace.{Workspace}
use Rattle.fz_job.specs.Stages.{HasStages, HasLargest, MakesChecks, StoppedWorking, Works, later_takings, wants_of}
use Rattle.fz_job.proofs.StageJobs.{header_first, of_file, takings_of_headers, takings_of_work, wants_fit, wants_header, work_within}
use Rattle.fz_job.proofs.LookStage.{headers_within, kept_same}
use Rattle.fz_job.proofs.Takings.{highest_both, highest_piled, tells_same}

-- ---- buffers that were not given

pub short_works : (X : Type 0) (source sink : Tally) (limit : ℕ) (short : Short) → TellsTheLimit limit short → Works {X = X} source source sink sink limit (Err (stop_of_short short))
short_works X source sink limit NoRoom told = record { source_kept = kept_same source; sink_kept = kept_same sink; ok = tt; stop = tt }
short_works X source sink limit (PastLimit live asked passed) told = record { source_kept = kept_same source; sink_kept = kept_same sink; ok = tt; stop = told }

pub short_past : (X : Type 0) (limit : ℕ) (takings : List (ℕ × ℕ)) (short : Short) → TellsShort {X = Workspace} limit takings (Err short) → TellsFirstPast {X = X} limit takings (Err (stop_of_short short))
short_past X limit takings NoRoom tells = tt
short_past X limit takings (PastLimit live asked told) tells = tells

-- ---- buffers that were given

wide_stop : (source source' sink sink' : Tally) (limit : ℕ) (stop : Stop) → StoppedRewriting source source' sink sink' stop → StoppedWorking source source' sink sink' limit stop
wide_stop source source' sink sink' limit (Refused x) why = why
wide_stop source source' sink sink' limit ReadFault why = why
wide_stop source source' sink sink' limit WriteFault why = why
wide_stop source source' sink sink' limit (OverLimit live asked told) why = absurd why
wide_stop source source' sink sink' limit NoMemory why = tt

module _ {X : Type 0} (source source' sink sink' : Tally) (limit : ℕ) where
  wide_err : (r : Result X Stop) → IfErr r (StoppedRewriting source source' sink sink') → IfErr r (StoppedWorking source source' sink sink' limit)
  wide_err (Ok x) why = tt
  wide_err (Err stop) why = wide_stop source source' sink sink' limit stop why

  pub rewrite_works : (r : Result X Stop) → Rewrites source source' sink sink' r → Works source source' sink sink' limit r
  rewrite_works r rewrites = record {
    source_kept = rewrites.source_kept;
    sink_kept = rewrites.sink_kept;
    ok = rewrites.ok;
    stop = wide_err r rewrites.stop;
  }

  pub rewrite_past : (takings : List (ℕ × ℕ)) (r : Result X Stop) → IfErr r (StoppedRewriting source source' sink sink') → first_past limit takings ≡ None → TellsFirstPast limit takings r
  rewrite_past takings (Ok x) why none = none
  rewrite_past takings (Err (Refused x)) why none = none
  rewrite_past takings (Err ReadFault) why none = tt
  rewrite_past takings (Err WriteFault) why none = none
  rewrite_past takings (Err (OverLimit live asked told)) why none = absurd why
  rewrite_past takings (Err NoMemory) why none = tt

-- ---- what the look learnt says of the work

module _ (job : Job) (checks : JobChecks) (file : List ℕ) (W live H n : ℕ) (makes : MakesChecks job checks) (one : live ≡ 2880) (learnt : HasLargest job H n file) where
  work_is : work_takings (header_fault job file) job file W ≡ piled live (wanted_buffers (wants_of job H n) W)
  work_is = takings_of_work job (of_file job checks makes) file H n learnt W ∙ ap (λ l. piled l (wanted_buffers (wants_of job H n) W)) (sym one)

  -- after headers that pass no limit the work decides
  passes_work : PastSecondLaw → (limit : ℕ) → first_past limit (survey_takings checks live file) ≡ None → first_past limit (later_takings job file W) ≡ first_past limit (piled live (wanted_buffers (wants_of job H n) W))
  passes_work past_second limit none =
      let first : first_past limit (header_takings job file) ≡ None = ap (first_past limit) (sym (takings_of_headers job checks file live makes one)) ∙ none in
      past_second limit (header_takings job file) (work_takings (header_fault job file) job file W) first ∙ ap (first_past limit) work_is

  -- the most that is live after one of them
  highest_later : highest (later_takings job file W) ≡ max (highest (survey_takings checks live file)) (live + sum (wanted_buffers (wants_of job H n) W))
  highest_later =
      let both = highest_both (header_takings job file) (work_takings (header_fault job file) job file W) in
      let headers : highest (survey_takings checks live file) ≡ highest (header_takings job file) = ap highest (takings_of_headers job checks file live makes one) in
      let wanted : List ℕ = wanted_buffers (wants_of job H n) W in
      let work : highest (work_takings (header_fault job file) job file W) ≡ live + sum wanted =
      ap highest work_is ∙ (ap (λ ns. highest (piled live ns)) (header_first job H n W) ∙ (highest_piled live H (drop 1 wanted) ∙ ap (λ ns. live + sum ns) (sym (header_first job H n W)))) in
      omega (arith, both, headers, work)

past_learnt : {X : Type 0} → PastSecondLaw → (job : Job) (checks : JobChecks) (file : List ℕ) (W live limit H n : ℕ) (r : Result X Stop) → MakesChecks job checks → live ≡ 2880 → HasLargest job H n file →
    first_past limit (survey_takings checks live file) ≡ None → TellsFirstPast limit (piled live (wanted_buffers (wants_of job H n) W)) r → TellsFirstPast limit (later_takings job file W) r
past_learnt past_second job checks file W live limit H n r makes one learnt none tells =
    tells_same limit (piled live (wanted_buffers (wants_of job H n) W)) (later_takings job file W) r (passes_work job checks file W live H n makes one learnt past_second limit none) tells

pub passes_look : PastSecondLaw → (job : Job) (checks : JobChecks) (held : Option (List ℕ)) (W live limit H n : ℕ) → MakesChecks job checks → live ≡ 2880 → IfSome held (HasLargest job H n) →
    IfSome held (λ file. first_past limit (survey_takings checks live file) ≡ None) → IfSome held (λ file. first_past limit (later_takings job file W) ≡ first_past limit (piled live (wanted_buffers (wants_of job H n) W)))
passes_look past_second job checks None W live limit H n makes one learnt none = tt
passes_look past_second job checks (Some g) W live limit H n makes one learnt none = passes_work job checks g W live H n makes one learnt past_second limit none

pub work_reached : (job : Job) (checks : JobChecks) (held : Option (List ℕ)) (W live old mid new H n : ℕ) → MakesChecks job checks → live ≡ 2880 → IfSome held (HasLargest job H n) →
    IfSome held (λ file. mid ≡ max old (highest (survey_takings checks live file))) → new ≡ max mid (live + sum (wanted_buffers (wants_of job H n) W)) → IfSome held (λ file. new ≡ max old (highest (later_takings job file W)))
work_reached job checks None W live old mid new H n makes one learnt look work = tt
work_reached job checks (Some g) W live old mid new H n makes one learnt look work = let all = highest_later job checks g W live H n makes one learnt in omega (arith, look, work, all)

pub work_past : {X : Type 0} → PastSecondLaw → (job : Job) (checks : JobChecks) (held : Option (List ℕ)) (W live limit H n : ℕ) (r : Result X Stop) → MakesChecks job checks → live ≡ 2880 → IfSome held (HasLargest job H n) →
    IfSome held (λ file. first_past limit (survey_takings checks live file) ≡ None) → TellsFirstPast limit (piled live (wanted_buffers (wants_of job H n) W)) r → IfSome held (λ file. TellsFirstPast limit (later_takings job file W) r)
work_past past_second job checks None W live limit H n r makes one learnt none tells = tt
work_past past_second job checks (Some g) W live limit H n r makes one learnt none tells = past_learnt past_second job checks g W live limit H n r makes one learnt none tells

module _ (stays : StaysInBound) (grows : BoundGrows) where
  pub work_most : (job : Job) (workers H n : ℕ) → HasStages job → H ≤ 737280 → n ≤ 2 ^ 26 → 2880 + sum (wanted_buffers (wants_of job H n) (workers_of job workers)) ≤ greatest_bound job workers
  work_most job workers H n own header tile =
      let wants : Wants = wants_of job H n in
      let long : wants.header_len ≤ 737280 = omega (arith, wants_header job H n, header) in
      let large : pixels_of wants.tile ≤ greatest_tile job = wants_fit job H n tile in
      let one = stays wants (workers_of job workers) in
      let more = grows wants.header_len 737280 (pixels_of wants.tile) (greatest_tile job) (workers_of job workers) long large in
      omega (arith, one, more)

  pub work_peak : AreBounded → (job : Job) (checks : JobChecks) (held : Option (List ℕ)) (workers live old mid new H n : ℕ) → MakesChecks job checks → live ≡ 2880 → IfSome held (HasLargest job H n) →
      IfSome held (λ file. mid ≤ max old (highest (survey_takings checks live file))) → new ≤ max mid (live + sum (wanted_buffers (wants_of job H n) (workers_of job workers))) →
      IfSome held (λ file. new ≤ max old (job_bound job file workers))
  work_peak bounded job checks None workers live old mid new H n makes one learnt low high = tt
  work_peak bounded job checks (Some g) workers live old mid new H n makes one learnt low high =
      let look = headers_within bounded job checks g workers live makes one in
      let work = work_within job (of_file job checks makes) g H n learnt stays grows workers in
      omega (arith, look, work, low, high, one)

-- the first taking of the work that passes the limit
pub tells_within : {X : Type 0} (past : PassesWithinAll) (source source' sink sink' : Tally) (limit live most : ℕ) (buffers : List ℕ) (r : Result X Stop) → live + sum buffers ≤ most →
    IfErr r (StoppedWorking source source' sink sink' limit) → TellsFirstPast limit (piled live buffers) r → TellsLimit limit most r
tells_within past source source' sink sink' limit live most buffers (Ok x) less why tells = tt
tells_within past source source' sink sink' limit live most buffers (Err (Refused x)) less why tells = tt
tells_within past source source' sink sink' limit live most buffers (Err ReadFault) less why tells = tt
tells_within past source source' sink sink' limit live most buffers (Err WriteFault) less why tells = tt
tells_within past source source' sink sink' limit live most buffers (Err (OverLimit before asked told)) less why tells =
    let within = past limit live before asked buffers tells in
    (why.0, why.1, omega (arith, within.1, less))
tells_within past source source' sink sink' limit live most buffers (Err NoMemory) less why tells = tt

pub work_tells : {X : Type 0} → StaysInBound → BoundGrows → PassesWithinAll → (job : Job) (workers live limit H n : ℕ) (source source' sink sink' : Tally) (r : Result X Stop) → HasStages job → live ≡ 2880 → H ≤ 737280 → n ≤ 2 ^ 26 →
    IfErr r (StoppedWorking source source' sink sink' limit) → TellsFirstPast limit (piled live (wanted_buffers (wants_of job H n) (workers_of job workers))) r → TellsLimit limit (greatest_bound job workers) r
work_tells stays grows past job workers live limit H n source source' sink sink' r own one header tile why tells =
    let most = work_most stays grows job workers H n own header tile in
    tells_within past source source' sink sink' limit live (greatest_bound job workers) (wanted_buffers (wants_of job H n) (workers_of job workers)) r (omega (arith, most, one)) why tells
