-- What a run is asked for: the job, the file that it works on, whether the file is compared too, and the limit on its buffers with their
-- bound.
use Rattle.std.specs.Prelude.{ℕ, min, not, ◌&&◌, Bool, true, false, List, [], ◌++◌, Option, Some, None, IfSome, Result, Ok, Err, ⊤}
use Rattle.fz_base.specs.declared.failure.Stop.{Stop}
use Rattle.fz_base.specs.declared.failure.Stop.TheVariants.{Refused as StopRefused, ReadFault as StopRead, WriteFault as StopWrite}
use Rattle.fz_base.specs.declared.failure.Stop.TheVariants.{OverLimit as StopLimit, NoMemory as StopMemory}
use Rattle.fz_base.specs.declared.fault.Fault.{Fault}
use Rattle.fz_files.specs.Buffers.{job_bound, job_takings, own_takings}
use Rattle.fz_files.specs.declared.job.Job.{Job}
use Rattle.fz_files.specs.declared.job.Job.TheVariants.{Pack, Unpack, Cut, Verify, List as ListHdus, Drill, Retile}
use Rattle.fz_job.specs.Clauses.{greatest_bound}
use Rattle.fz_files.specs.Decided.{first_fault}
use Rattle.fz_strict.specs.Clauses.{strict_takings}
use Rattle.fz_words.specs.Jobs.{Asked, job_of}

-- a fact of what the words ask for, if they do
abbrev pub IfAsked : List (List ℕ) → (Asked → Type 0) → Type 0
IfAsked words P = IfSome (job_of words) P

-- The file that a job is given, if it is shown: what the source holds. `drill` is given none, and works alike whatever the source holds:
-- it has the empty file here.
abbrev pub given : Job → Option (List ℕ) → Option (List ℕ)
given (Pack options) held = held
given Unpack held = held
given (Cut wanted sieve) held = held
given Verify held = held
given ListHdus held = held
given (Drill rows) held = Some []
given (Retile options) held = held

-- the limit on buffers: that of the meter, or that of the words if it is smaller
abbrev pub limit_of : Asked → ℕ → ℕ
limit_of asked limit = min limit asked.memory

-- The bound of a job, asked for so many workers, whatever the source holds: the greatest that it has on any file. `drill` works on files of
-- its own, and has its own bound.
abbrev pub most_bound : Job → ℕ → ℕ
most_bound (Pack options) asked = greatest_bound (Pack options) asked
most_bound Unpack asked = greatest_bound Unpack asked
most_bound (Cut wanted sieve) asked = greatest_bound (Cut wanted sieve) asked
most_bound Verify asked = greatest_bound Verify asked
most_bound ListHdus asked = greatest_bound ListHdus asked
most_bound (Drill rows) asked = job_bound (Drill rows) [] asked
most_bound (Retile options) asked = greatest_bound (Retile options) asked

-- ---- the comparison with what `pack` writes, which `verify --strict` makes: under an ample limit before the file is verified, else after that

-- whether a job makes it that is asked to: only `verify` does
abbrev pub is_compared_by : Job → Bool → Bool
is_compared_by (Pack options) strict = false
is_compared_by Unpack strict = false
is_compared_by (Cut wanted sieve) strict = false
is_compared_by Verify strict = strict
is_compared_by ListHdus strict = false
is_compared_by (Drill rows) strict = false
is_compared_by (Retile options) strict = false

-- whether it is made
abbrev pub is_compared : Asked → Bool
is_compared asked = is_compared_by asked.job asked.strict

-- the same job without it
abbrev pub uncompared : Asked → Asked
uncompared asked = record asked { strict = false }

-- What is said of its takings: nothing if the file has a fault. Then `verify` refuses it, and it is not compared; or it was compared before, under
-- a limit that no taking passes.
abbrev pub compared_takings : Option Fault → List ℕ → List (ℕ × ℕ)
compared_takings None file = strict_takings file
compared_takings (Some x) file = []

-- the takings of a job, and after them those of the comparison if it is made
abbrev pub takings_with : Bool → List ℕ → List (ℕ × ℕ) → List (ℕ × ℕ)
takings_with false file takings = takings
takings_with true file takings = takings ++ compared_takings (first_fault Verify file) file

-- those of the meter that the job is given
abbrev pub own_asked : Asked → List ℕ → List (ℕ × ℕ)
own_asked asked file = takings_with (is_compared asked) file (own_takings asked.job file asked.workers)

-- a write fault
abbrev pub is_write_fault : Result ⊤ Stop → Bool
is_write_fault (Ok done) = false
is_write_fault (Err (StopRefused x)) = false
is_write_fault (Err StopRead) = false
is_write_fault (Err StopWrite) = true
is_write_fault (Err (StopLimit live asked limit)) = false
is_write_fault (Err StopMemory) = false

-- Those of the takings that an answer speaks of. A write fault may be of the lines of `verify`, before anything is compared, and speaks of the
-- takings of the job.
abbrev pub takings_told : Asked → Result ⊤ Stop → List ℕ → List (ℕ × ℕ)
takings_told asked answer file = takings_with (is_compared asked && not (is_write_fault answer)) file (job_takings asked.job file asked.workers)
