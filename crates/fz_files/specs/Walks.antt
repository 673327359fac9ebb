-- Which HDUs each job looks at, and where their headers are refused (FITS 4.0, sections 3.1, 3.3 and 10.1).
use Rattle.std.specs.Prelude.{ℕ, zero, suc, ◌==◌, ◌+◌, ◌-◌, Bool, true, false, List, [], ◌∷◌, ◌++◌}
use Rattle.std.specs.Prelude.{length, replicate, Option, Some, None, Result, Ok, Err, if◌then◌else◌}
use Rattle.fz_base.specs.declared.fault.Fault.{Fault}
use Rattle.fz_block.specs.Checks.{Judge, hdu_at, walk_of}
use Rattle.fz_block.specs.Header.{next_start_of}
use Rattle.fz_block.specs.Walk.{stops}
use Rattle.fz_block.specs.declared.header.Header.{Header}
use Rattle.fz_grid.specs.Sieve.{sieve_lo, sieve_hi}
use Rattle.fz_grid.specs.declared.region.Region.{Region}
use Rattle.fz_grid.specs.declared.sieve.Sieve.{Sieve}
use Rattle.fz_checks.specs.JobChecks.{missing_hdu}
use Rattle.fz_checks.specs.Judges.{pack_judge, unpack_judge, cut_judge}
use Rattle.fz_files.specs.declared.job.Job.{Job}
use Rattle.fz_files.specs.declared.job.Job.TheVariants.{Pack, Unpack, Cut, Verify, List as ListHdus, Drill, Retile}

-- how long a box is along each axis, both ends included
abbrev pub lengths_between : List ℕ → List ℕ → List ℕ
lengths_between [] his = []
lengths_between (o ∷ os) [] = []
lengths_between (o ∷ os) (h ∷ hs) = (h - o + 1) ∷ lengths_between os hs

-- the box of a sieve, without its steps
abbrev pub box_of : Sieve → Region
box_of sieve = record {
  n = sieve.n;
  lo = sieve.lo;
  len = lengths_between (sieve_lo sieve) (sieve_hi sieve) ++ replicate (9 - sieve.n) 0;
}

-- the headers that a job looks at, or the first fault among them; a file that is packed has room for the empty primary, and `drill`
-- looks at no file
unfoldable pub job_walk : Job → List ℕ → Result (List Header) Fault
job_walk (Pack o) file = walk_of (pack_judge o file) 65535 file
job_walk Unpack file = walk_of (unpack_judge file) 65536 file
job_walk (Cut wanted sieve) file = walk_of (cut_judge wanted (box_of sieve) file) 65536 file
job_walk Verify file = walk_of (unpack_judge file) 65536 file
job_walk ListHdus file = walk_of (unpack_judge file) 65536 file
job_walk (Drill rows) file = Ok []
job_walk (Retile o) file = walk_of (unpack_judge file) 65536 file

-- the last of some headers: a list of this, or of none
abbrev pub last_of : List Header → List Header
last_of [] = []
last_of (h ∷ []) = h ∷ []
last_of (h ∷ k ∷ hs) = last_of (k ∷ hs)

-- the file ended before the HDU that a part is cut from
abbrev pub missing_of : Option ℕ → Judge → List ℕ → List Header → Option Fault
missing_of wanted judge file hs = if stops judge hs then None else Some (missing_hdu wanted (length hs) (length file))

abbrev pub cut_end_fault : Job → List ℕ → List Header → Option Fault
cut_end_fault (Pack o) file hs = None
cut_end_fault Unpack file hs = None
cut_end_fault (Cut wanted sieve) file hs = missing_of wanted (cut_judge wanted (box_of sieve) file) file hs
cut_end_fault Verify file hs = None
cut_end_fault ListHdus file hs = None
cut_end_fault (Drill rows) file hs = None
cut_end_fault (Retile o) file hs = None

abbrev pub fault_of_walk : Job → List ℕ → Result (List Header) Fault → Option Fault
fault_of_walk job file (Err fault) = Some fault
fault_of_walk job file (Ok hs) = cut_end_fault job file hs

-- the first fault of the headers of a file for a job, or none
abbrev pub header_fault : Job → List ℕ → Option Fault
header_fault job file = fault_of_walk job file (job_walk job file)

-- the headers that a job looks at in a file whose headers have no fault
abbrev pub found_headers : Result (List Header) Fault → List Header
found_headers (Ok hs) = hs
found_headers (Err fault) = []

abbrev pub headers_for : Job → List ℕ → List Header
headers_for job file = found_headers (job_walk job file)

-- an HDU that the checks of every job come to: its number, and the byte at which it begins
pub record Reached : Type 0 where
  pub hdu : ℕ
  pub start : ℕ

-- what a job reaches after an HDU: nothing if the HDU is refused, if the job stops at it, and if the file ends with it
abbrev pub reached_behind : List ℕ → Header → List Reached → Result Bool Fault → List Reached
reached_behind file h rest (Err fault) = []
reached_behind file h rest (Ok true) = []
reached_behind file h rest (Ok false) = if next_start_of h == length file then [] else rest

abbrev pub reached_after : List ℕ → Judge → (Header → List Reached) → Result Header Fault → List Reached
reached_after file judge rest (Err fault) = []
reached_after file judge rest (Ok h) = reached_behind file h (rest h) (judge h)

-- the HDUs from number k on that the checks come to, of which there may be so many
unfoldable pub reached_from : Judge → ℕ → ℕ → ℕ → List ℕ → List Reached
reached_from judge zero k start file = []
reached_from judge (suc more) k start file =
    record { hdu = k; start = start } ∷ reached_after file judge (λ h. reached_from judge more (suc k) (next_start_of h) file) (hdu_at k start file)

-- the HDUs that the checks of a job come to; `drill` looks at no file
unfoldable pub reached_by : Job → List ℕ → List Reached
reached_by (Pack o) file = reached_from (pack_judge o file) 65535 0 0 file
reached_by Unpack file = reached_from (unpack_judge file) 65536 0 0 file
reached_by (Cut wanted sieve) file = reached_from (cut_judge wanted (box_of sieve) file) 65536 0 0 file
reached_by Verify file = reached_from (unpack_judge file) 65536 0 0 file
reached_by ListHdus file = reached_from (unpack_judge file) 65536 0 0 file
reached_by (Drill rows) file = []
reached_by (Retile o) file = reached_from (unpack_judge file) 65536 0 0 file
