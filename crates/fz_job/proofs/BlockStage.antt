-- The first block was not given, or it was, and the job ended after it.
use Rattle.std.proofs.Common.{◌≡◌, ℕ, ◌+◌, ◌<◌, ◌≤◌, max, nat_lt, true, false, List, refl, sym, ap, ◌∙◌, subst, arith}
use Rattle.std.specs.Prelude.{Option, Some, None, IfSome, IfErr, Result, Ok, Err, ⊤, if◌then◌else◌}
use Rattle.std.proofs.lemmas.Bool.Decides.{nat_tests}
use Rattle.fz_base.specs.Counts.{Tally}
use Rattle.fz_base.specs.JobBuffers.{buffer_bound}
use Rattle.fz_base.specs.Meter.{Gauge, RefusedFor}
use Rattle.fz_base.specs.Stop.{IsRefused, TellsLimit, stop_of_short}
use Rattle.fz_base.specs.Takings.{TellsFirstPast, first_past, highest}
use Rattle.fz_base.specs.declared.failure.Short.{Short}
use Rattle.fz_base.specs.declared.failure.Short.TheVariants.{NoMemory as NoRoom, OverLimit as PastLimit}
use Rattle.fz_base.specs.declared.failure.Stop.{Stop}
use Rattle.fz_base.specs.declared.failure.Stop.TheVariants.{Refused, ReadFault, WriteFault, OverLimit, NoMemory}
use Rattle.fz_files.specs.Buffers.{AreBounded, IsOfFile, job_bound, job_takings, workers_of}
use Rattle.fz_files.specs.declared.job.Job.{Job}
use Rattle.fz_job.specs.Clauses.{Answers, HasJobCause, greatest_bound}
use Rattle.fz_job.specs.Stages.{HasStages, StoppedWorking, Works, later_takings}
use Rattle.fz_job.proofs.StageJobs.{takings_of_file}
use Rattle.fz_job.proofs.Takings.{past_wider, tells_same}

pub always : (held : Option (List ℕ)) (P : List ℕ → Type 0) → ((g : List ℕ) → P g) → IfSome held P
always None P is = tt
always (Some g) P is = is g

-- ---- one block is the first taking

block_most : (job : Job) (workers : ℕ) → 2880 ≤ greatest_bound job workers
unfolding buffer_bound
block_most job workers = omega arith

block_within : (job : Job) (file : List ℕ) (workers : ℕ) → 2880 ≤ job_bound job file workers
unfolding buffer_bound
block_within job file workers = omega arith

module _ (job : Job) (own : HasStages job) (file : List ℕ) (workers limit : ℕ) where
  block_past : limit < 2880 → first_past limit (job_takings job file workers) ≡ Some (0, 2880)
  block_past low =
      let test : nat_lt limit (0 + 2880) ≡ true = grind (arith, nat_tests, low) in
      ap (first_past limit) (takings_of_file job file workers own)
      ∙ ap (λ b. if b then Some (0, 2880) else first_past limit (later_takings job file (workers_of job workers))) test

  behind_block : 2880 ≤ limit → first_past limit (job_takings job file workers) ≡ first_past limit (later_takings job file (workers_of job workers))
  behind_block room =
      let test : nat_lt limit (0 + 2880) ≡ false = grind (arith, nat_tests, room) in
      ap (first_past limit) (takings_of_file job file workers own)
      ∙ ap (λ b. if b then Some (0, 2880) else first_past limit (later_takings job file (workers_of job workers))) test

pub passes_behind : (job : Job) (held : Option (List ℕ)) (limit workers : ℕ) → HasStages job → 2880 ≤ limit →
    IfSome held (λ file. first_past limit (job_takings job file workers) ≡ first_past limit (later_takings job file (workers_of job workers)))
passes_behind job held limit workers own room = always held (λ file. first_past limit (job_takings job file workers) ≡ first_past limit (later_takings job file (workers_of job workers))) (λ g. behind_block job own g workers limit room)

-- ---- why the job ended

pub short_cause : (X : Type 0) (job : Job) (held : Option (List ℕ)) (source sink : Tally) (workers : ℕ) (meter : Gauge) (short : Short) → HasStages job → meter.live ≡ 0 → RefusedFor meter 2880 short →
    HasJobCause {X = X} job held source source sink sink meter.limit workers (Err (stop_of_short short))
short_cause X job held source sink workers meter NoRoom own nothing why = record {
  done = tt;
  refused = λ is. (refl, refl);
  read_fault = λ e. absurd cc;
  write_fault = λ e. absurd cc;
  over_limit = tt;
  first_past = always held (λ file. ⊤) (λ file. tt);
  block = λ low. absurd (omega (arith, low, why, nothing));
}
short_cause X job held source sink workers meter (PastLimit live wanted told) own nothing why =
    let low : meter.limit < 2880 = omega (arith, why.0, nothing) in
    let first : live ≡ 0 = why.1 ∙ nothing in
    let one : ◌≡◌ {A = ℕ × ℕ} (0, 2880) (live, wanted) = λ i. (sym first i, sym why.2 i) in
    record {
      done = tt;
      refused = λ is. (refl, refl);
      read_fault = λ e. absurd cc;
      write_fault = λ e. absurd cc;
      over_limit = (why.3, omega (arith, low, first, why.2), omega (arith, first, why.2, block_most job workers));
      first_past = always held (λ file. first_past meter.limit (job_takings job file workers) ≡ Some (live, wanted)) (λ file. block_past job own file workers meter.limit low ∙ ap Some one);
      block = λ low. ((λ i. Err (OverLimit (first i) (why.2 i) (why.3 i))), refl, refl);
    }

module _ {X : Type 0} (source source' sink sink' : Tally) (limit : ℕ) (r : Result X Stop) (works : Works source source' sink sink' limit r) where
  stopped_by : (stop : Stop) → r ≡ Err stop → StoppedWorking source source' sink sink' limit stop
  stopped_by stop is = subst (λ (q : Result X Stop). IfErr q (StoppedWorking source source' sink sink' limit)) is works.stop

  refused_by : IsRefused r → (source' ≡ source) × (sink' ≡ sink)
  refused_by is = stopped_by (Refused is.0) is.1

with_block : {X : Type 0} (job : Job) (held : Option (List ℕ)) (limit workers : ℕ) (r : Result X Stop) → HasStages job → 2880 ≤ limit → IfSome held (λ file. TellsFirstPast limit (later_takings job file (workers_of job workers)) r) →
    IfSome held (λ file. TellsFirstPast limit (job_takings job file workers) r)
with_block job None limit workers r own room tells = tt
with_block job (Some g) limit workers r own room tells =
    tells_same limit (later_takings job g (workers_of job workers)) (job_takings job g workers) r (behind_block job own g workers limit room) tells

pub behind_cause : {X : Type 0} (job : Job) (held : Option (List ℕ)) (source source' sink sink' : Tally) (limit workers : ℕ) (r : Result X Stop) → HasStages job → 2880 ≤ limit → Works source source' sink sink' limit r →
    TellsLimit limit (greatest_bound job workers) r → IfSome held (λ file. TellsFirstPast limit (later_takings job file (workers_of job workers)) r) → HasJobCause job held source source' sink sink' limit workers r
behind_cause job held source source' sink sink' limit workers r own room works most tells = record {
  done = works.ok;
  refused = λ is. refused_by source source' sink sink' limit r works is;
  read_fault = λ is. stopped_by source source' sink sink' limit r works ReadFault is;
  write_fault = λ is. stopped_by source source' sink sink' limit r works WriteFault is;
  over_limit = most;
  first_past = with_block job held limit workers r own room tells;
  block = λ low. absurd (omega (arith, low, room));
}

-- ---- where no count rose, and the limit is at least the bound

module _ (bounded : AreBounded) (job : Job) (own : IsOfFile job) where
  past_never : (file : List ℕ) (limit workers live wanted : ℕ) → first_past limit (job_takings job file workers) ≡ Some (live, wanted) → job_bound job file workers ≤ limit → ⊥
  past_never file limit workers live wanted past room =
      let none = past_wider (job_bound job file workers) limit (job_takings job file workers) room (bounded job file workers own) in
      let never : ◌≡◌ {A = Option (ℕ × ℕ)} None (Some (live, wanted)) = sym none ∙ past in
      absurd cc

  over_never : (held : Option (List ℕ)) (limit workers live wanted : ℕ) → IfSome held (λ file. first_past limit (job_takings job file workers) ≡ Some (live, wanted)) → IfSome held (λ file. job_bound job file workers ≤ limit → ⊥)
  over_never None limit workers live wanted past = tt
  over_never (Some g) limit workers live wanted past = λ room. past_never g limit workers live wanted past room

  pub has_answer : {X : Type 0} (held : Option (List ℕ)) (source source' sink sink' : Tally) (limit workers : ℕ) (r : Result X Stop) →
      HasJobCause job held source source' sink sink' limit workers r → Answers job held source source' sink sink' limit workers r
  has_answer held source source' sink sink' limit workers (Ok x) cause = λ calm quiet. always held (λ file. job_bound job file workers ≤ limit → ⊤) (λ file room. tt)
  has_answer held source source' sink sink' limit workers (Err (Refused x)) cause = λ calm quiet. always held (λ file. job_bound job file workers ≤ limit → ⊤) (λ file room. tt)
  has_answer held source source' sink sink' limit workers (Err ReadFault) cause = λ calm quiet. absurd (calm (cause.read_fault refl))
  has_answer held source source' sink sink' limit workers (Err WriteFault) cause = λ calm quiet. absurd (quiet (cause.write_fault refl))
  has_answer held source source' sink sink' limit workers (Err (OverLimit live wanted told)) cause = λ calm quiet. over_never held limit workers live wanted cause.first_past
  has_answer held source source' sink sink' limit workers (Err NoMemory) cause = λ calm quiet. always held (λ file. job_bound job file workers ≤ limit → ⊤) (λ file room. tt)

-- ---- the peak

pub block_reached : (job : Job) (held : Option (List ℕ)) (workers old mid new : ℕ) → HasStages job → mid ≡ max old 2880 → IfSome held (λ file. new ≡ max mid (highest (later_takings job file (workers_of job workers)))) →
    IfSome held (λ file. new ≡ max old (highest (job_takings job file workers)))
block_reached job None workers old mid new own begun reached = tt
block_reached job (Some g) workers old mid new own begun reached =
    let all : highest (job_takings job g workers) ≡ max 2880 (highest (later_takings job g (workers_of job workers))) = ap highest (takings_of_file job g workers own) in
    omega (arith, begun, reached, all)

pub block_peak : (job : Job) (held : Option (List ℕ)) (workers old mid new : ℕ) → mid ≤ max old 2880 → IfSome held (λ file. new ≤ max mid (job_bound job file workers)) → IfSome held (λ file. new ≤ max old (job_bound job file workers))
block_peak job None workers old mid new begun low = tt
block_peak job (Some g) workers old mid new begun low = let room = block_within job g workers in omega (arith, begun, low, room)
