-- The look at the headers ended the job.
use Rattle.std.proofs.Common.{◌≡◌, ℕ, ◌+◌, ◌≤◌, max, false, List, refl, sym, ap, ◌∙◌, subst, arith}
use Rattle.std.specs.Prelude.{Option, Some, None, IfSome, Err}
use Rattle.fz_base.specs.Counts.{Tally, CountsKept}
use Rattle.fz_base.specs.Stop.{ReadsAndTakes, StoppedTaking, TellsLimit}
use Rattle.fz_base.specs.Takings.{PastFirstLaw, PastSecondLaw, TellsFirstPast, first_past, highest}
use Rattle.fz_base.specs.declared.failure.Stop.{Stop}
use Rattle.fz_base.specs.declared.failure.Stop.TheVariants.{Refused, ReadFault, WriteFault, OverLimit, NoMemory}
use Rattle.fz_base.specs.declared.fault.Fault.{Fault}
use Rattle.fz_files.specs.Buffers.{AreBounded, file_takings, header_takings, job_bound, work_takings, workers_of}
use Rattle.fz_files.specs.FirstFault.{IsFaultBehind}
use Rattle.fz_files.specs.Walks.{header_fault}
use Rattle.fz_files.specs.declared.job.Job.{Job}
use Rattle.fz_job.specs.Clauses.{TellsFirstFault, greatest_bound, greatest_tile}
use Rattle.fz_job.specs.Surveys.{survey_takings}
use Rattle.fz_job.specs.Workspace.{BoundGrows, StaysInBound}
use Rattle.fz_job.specs.declared.checks.JobChecks.{JobChecks}
use Rattle.fz_job.specs.declared.survey.Survey.{Survey}
use Rattle.fz_job.specs.declared.workspace.Wants.{Wants}
use Rattle.fz_job.specs.Stages.{MakesChecks, StoppedWorking, TellsHeaderFault, Works, later_takings}
use Rattle.fz_job.proofs.StageJobs.{of_file, on_file, takings_of_file, takings_of_headers}
use Rattle.fz_job.proofs.Takings.{highest_first, highest_within}

pub kept_same : (t : Tally) → CountsKept t t
kept_same t = record { faults_kept = omega arith; wants_kept = omega arith; faults_stay = λ end. end; wants_stay = λ end. end; names_kept = refl; not_amended = refl }

-- ---- the fault that it tells

header_faulty : (job : Job) (held : Option (List ℕ)) (x : Fault) → IfSome held (λ file. header_fault job file ≡ Some x) → IfSome held (λ file. IsFaultBehind (header_fault job file) job file (Some x))
header_faulty job None x is = tt
header_faulty job (Some g) x is = subst (λ (f : Option Fault). IsFaultBehind f job g (Some x)) (sym is) refl

pub look_faulty : (X : Type 0) (job : Job) (held : Option (List ℕ)) (stop : Stop) → TellsHeaderFault job held stop → TellsFirstFault {X = X} job held (Err stop)
look_faulty X job held (Refused x) tells = header_faulty job held x tells
look_faulty X job held ReadFault tells = tt
look_faulty X job held WriteFault tells = tt
look_faulty X job held (OverLimit live asked limit) tells = tt
look_faulty X job held NoMemory tells = tt

-- ---- why it ended

look_stop : (before now sink : Tally) (limit : ℕ) (stop : Stop) → StoppedTaking before now limit stop → StoppedWorking before now sink sink limit stop
look_stop before now sink limit (Refused x) why = (why, refl)
look_stop before now sink limit ReadFault why = why
look_stop before now sink limit WriteFault why = absurd why
look_stop before now sink limit (OverLimit live asked told) why = why
look_stop before now sink limit NoMemory why = tt

pub look_works : (X : Type 0) (before now sink : Tally) (limit : ℕ) (stop : Stop) → ReadsAndTakes {X = Survey} before now limit (Err stop) → Works {X = X} before now sink sink limit (Err stop)
look_works X before now sink limit stop reads = record {
  source_kept = reads.kept;
  sink_kept = kept_same sink;
  ok = tt;
  stop = look_stop before now sink limit stop reads.stop;
}

-- ---- the first taking that passes the limit

module _ (job : Job) (checks : JobChecks) (makes : MakesChecks job checks) (file : List ℕ) (W live : ℕ) (one : live ≡ 2880) where
  none_in_headers : (limit : ℕ) → first_past limit (survey_takings checks live file) ≡ None → first_past limit (header_takings job file) ≡ None
  none_in_headers limit none = ap (first_past limit) (sym (takings_of_headers job checks file live makes one)) ∙ none

  past_by_stop : PastFirstLaw → PastSecondLaw → (X : Type 0) (limit : ℕ) (stop : Stop) (before now : Tally) → StoppedTaking before now limit stop → TellsHeaderFault job (Some file) stop →
      TellsFirstPast {X = Survey} limit (survey_takings checks live file) (Err stop) → TellsFirstPast {X = X} limit (later_takings job file W) (Err stop)
  past_by_stop past_first past_second X limit (Refused x) before now cause fault tells =
      past_second limit (header_takings job file) (work_takings (header_fault job file) job file W) (none_in_headers limit tells)
      ∙ ap (λ (f : Option Fault). first_past limit (work_takings f job file W)) fault
  past_by_stop past_first past_second X limit ReadFault before now cause fault tells = tt
  past_by_stop past_first past_second X limit WriteFault before now cause fault tells = absurd cause
  past_by_stop past_first past_second X limit (OverLimit before_it asked told) before now cause fault tells =
      past_first limit (before_it, asked) (header_takings job file) (work_takings (header_fault job file) job file W) (ap (first_past limit) (sym (takings_of_headers job checks file live makes one)) ∙ tells)
  past_by_stop past_first past_second X limit NoMemory before now cause fault tells = tt

pub look_past : PastFirstLaw → PastSecondLaw → (X : Type 0) (job : Job) (checks : JobChecks) (held : Option (List ℕ)) (W live limit : ℕ) (stop : Stop) (before now : Tally) → MakesChecks job checks → live ≡ 2880 → StoppedTaking before now limit stop →
    TellsHeaderFault job held stop → IfSome held (λ file. TellsFirstPast {X = Survey} limit (survey_takings checks live file) (Err stop)) → IfSome held (λ file. TellsFirstPast {X = X} limit (later_takings job file W) (Err stop))
look_past past_first past_second X job checks None W live limit stop before now makes one cause fault tells = tt
look_past past_first past_second X job checks (Some g) W live limit stop before now makes one cause fault tells = past_by_stop job checks makes g W live one past_first past_second X limit stop before now cause fault tells

-- ---- the bounds

-- one block and the longest header
pub look_most : StaysInBound → BoundGrows → (job : Job) (workers : ℕ) → 2880 + 737280 ≤ greatest_bound job workers
look_most stays grows job workers =
    let wants : Wants = record { header_len = 737280; translates = false; tile = None } in
    let one = stays wants (workers_of job workers) in
    let more = grows 737280 737280 0 (greatest_tile job) (workers_of job workers) (omega arith) (omega arith) in
    omega (arith, one, more)

pub tells_most : (X : Type 0) (limit most more : ℕ) (stop : Stop) → most ≤ more → TellsLimit {X = Survey} limit most (Err stop) → TellsLimit {X = X} limit more (Err stop)
tells_most X limit most more (Refused x) less tells = tt
tells_most X limit most more ReadFault less tells = tt
tells_most X limit most more WriteFault less tells = tt
tells_most X limit most more (OverLimit live asked told) less tells = (tells.0, tells.1, omega (arith, tells.2, less))
tells_most X limit most more NoMemory less tells = tt

pub headers_within : AreBounded → (job : Job) (checks : JobChecks) (file : List ℕ) (workers live : ℕ) → MakesChecks job checks → live ≡ 2880 → highest (survey_takings checks live file) ≤ job_bound job file workers
headers_within bounded job checks file workers live makes one =
    let own = of_file job checks makes in
    let W : ℕ = workers_of job workers in
    let none : first_past (job_bound job file workers) (file_takings job file W) ≡ None =
    ap (first_past (job_bound job file workers)) (sym (takings_of_file job file workers own)) ∙ bounded job file workers (on_file job own) in
    let all : highest (file_takings job file W) ≤ job_bound job file workers = highest_within (job_bound job file workers) (file_takings job file W) none in
    let front : highest (header_takings job file) ≤ highest (later_takings job file W) = highest_first (header_takings job file) (work_takings (header_fault job file) job file W) in
    let same : highest (survey_takings checks live file) ≡ highest (header_takings job file) = ap highest (takings_of_headers job checks file live makes one) in
    omega (arith, all, front, same)

pub look_peak : AreBounded → (job : Job) (checks : JobChecks) (held : Option (List ℕ)) (workers live old new : ℕ) → MakesChecks job checks → live ≡ 2880 →
    IfSome held (λ file. new ≤ max old (highest (survey_takings checks live file))) → IfSome held (λ file. new ≤ max old (job_bound job file workers))
look_peak bounded job checks None workers live old new makes one low = tt
look_peak bounded job checks (Some g) workers live old new makes one low = let within = headers_within bounded job checks g workers live makes one in omega (arith, low, within)
