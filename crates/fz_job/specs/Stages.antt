-- What the stages of a job on a file say of themselves: it takes one block, looks at the headers, takes the buffers that its work wants,
-- and works. No stage is said of `drill` and of `retile`, which run other jobs.
use Rattle.std.specs.Prelude.{ℕ, ◌≡◌, ◌+◌, ◌<◌, true, false, List, ◌++◌, Option, Some, None, IfSome, Result, OnOk, IfErr, ⊤}
use Rattle.fz_base.specs.Counts.{Rose, Tally, CountsKept}
use Rattle.fz_base.specs.declared.failure.Stop.{Stop}
use Rattle.fz_base.specs.declared.failure.Stop.TheVariants.{Refused, ReadFault, WriteFault, OverLimit, NoMemory}
use Rattle.fz_files.specs.Buffers.{header_takings, largest_tile, longest_header, work_takings}
use Rattle.fz_files.specs.Walks.{box_of, header_fault}
use Rattle.fz_files.specs.declared.job.Job.{Job}
use Rattle.fz_files.specs.declared.job.Job.TheVariants.{Pack, Unpack, Cut, Verify, List as ListHdus, Drill, Retile}
use Rattle.fz_job.specs.declared.checks.JobChecks.{JobChecks}
use Rattle.fz_job.specs.declared.checks.JobChecks.TheVariants.{Pack as PackChecks, Unpack as UnpackChecks, Cut as CutChecks}
use Rattle.fz_job.specs.declared.survey.Survey.{Survey}
use Rattle.fz_job.specs.declared.workspace.Wants.{Wants}

-- what is taken after the first block: room for the headers, and then what the work takes
abbrev pub later_takings : Job → List ℕ → ℕ → List (ℕ × ℕ)
later_takings job file W = header_takings job file ++ work_takings (header_fault job file) job file W

-- ---- the look at the headers

-- the checks that a job makes of each header that it comes to; `drill` and `retile` make none of their own
abbrev pub MakesChecks : Job → JobChecks → Type 0
MakesChecks (Pack o) checks = checks ≡ PackChecks o
MakesChecks Unpack checks = checks ≡ UnpackChecks
MakesChecks (Cut wanted sieve) checks = checks ≡ CutChecks wanted (box_of sieve)
MakesChecks Verify checks = checks ≡ UnpackChecks
MakesChecks ListHdus checks = checks ≡ UnpackChecks
MakesChecks (Drill rows) checks = ⊥
MakesChecks (Retile o) checks = ⊥

-- a job that is these stages: `drill` and `retile` run other jobs
abbrev pub HasStages : Job → Type 0
HasStages (Pack o) = ⊤
HasStages Unpack = ⊤
HasStages (Cut wanted sieve) = ⊤
HasStages Verify = ⊤
HasStages ListHdus = ⊤
HasStages (Drill rows) = ⊥
HasStages (Retile o) = ⊥

-- if the look refuses the file, and its bytes are shown, it gives the first fault of its headers for the job
abbrev pub TellsHeaderFault : Job → Option (List ℕ) → Stop → Type 0
TellsHeaderFault job held (Refused x) = IfSome held (λ file. header_fault job file ≡ Some x)
TellsHeaderFault job held ReadFault = ⊤
TellsHeaderFault job held WriteFault = ⊤
TellsHeaderFault job held (OverLimit live asked limit) = ⊤
TellsHeaderFault job held NoMemory = ⊤

-- No header of the file is refused, and these are its longest header, and the pixels of the largest tile that the job works on: 0 for `list`.
pub record HasLargest (job : Job) (H n : ℕ) (file : List ℕ) : Type 0 where
  pub no_fault : header_fault job file ≡ None
  pub longest : longest_header job file ≡ H
  pub largest : largest_tile job file ≡ n

-- ---- the work

-- What the work of a job wants for headers of at most H bytes and tiles of at most n pixels. If nothing is written no header is
-- translated, and `list` works on no tiles. `drill` and `retile` want nothing of their own.
abbrev pub wants_of : Job → ℕ → ℕ → Wants
wants_of (Pack o) H n = record { header_len = H; translates = true; tile = Some n }
wants_of Unpack H n = record { header_len = H; translates = true; tile = Some n }
wants_of (Cut wanted sieve) H n = record { header_len = H; translates = true; tile = Some n }
wants_of Verify H n = record { header_len = H; translates = false; tile = Some n }
wants_of ListHdus H n = record { header_len = H; translates = false; tile = None }
wants_of (Drill rows) H n = record { header_len = H; translates = false; tile = None }
wants_of (Retile o) H n = record { header_len = H; translates = false; tile = None }

-- what it wants if the look learnt this; `list` leaves out the tile
abbrev pub wants_for : Job → Survey → Wants
wants_for job s = wants_of job s.header_len s.tile

-- ---- why a job ended after its first block

-- Refused comes only if no count rose, ReadFault only if the source's count of faults rose, and WriteFault only if that of what the
-- job writes to rose, its sink or its text; OverLimit shows the limit, and what passes it; NoMemory comes at will.
abbrev pub StoppedWorking : Tally → Tally → Tally → Tally → ℕ → Stop → Type 0
StoppedWorking source source' sink sink' limit (Refused x) = (source' ≡ source) × (sink' ≡ sink)
StoppedWorking source source' sink sink' limit ReadFault = Rose source.faults source'.faults
StoppedWorking source source' sink sink' limit WriteFault = Rose sink.faults sink'.faults
StoppedWorking source source' sink sink' limit (OverLimit live asked told) = (told ≡ limit) × (limit < live + asked)
StoppedWorking source source' sink sink' limit NoMemory = ⊤

-- the counts of the source and of what the job writes to changed as the answer says
pub record Works {X : Type 0} (source source' sink sink' : Tally) (limit : ℕ) (result : Result X Stop) : Type 0 where
  pub source_kept : CountsKept source source'
  pub sink_kept : CountsKept sink sink'
  pub ok : OnOk result ((source' ≡ source) × (sink' ≡ sink))
  pub stop : IfErr result (StoppedWorking source source' sink sink' limit)
