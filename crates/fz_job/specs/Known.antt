-- What the first look at all headers of a file learns of it, for the jobs that make the checks of `unpack` (FITS 4.0, sections 3.1 and 10.1).
use Rattle.std.specs.Prelude.{ℕ, ◌≡◌, List, length, Some, None, Ok, Err, ⊤}
use Rattle.fz_base.specs.declared.fault.Fault.{Fault}
use Rattle.fz_block.specs.declared.header.Header.{Header}
use Rattle.fz_files.specs.Buffers.{largest_tile, longest_header}
use Rattle.fz_files.specs.Walks.{header_fault, headers_for}
use Rattle.fz_files.specs.declared.job.Job.{Job}
use Rattle.fz_files.specs.declared.job.Job.TheVariants.{Pack, Unpack, Cut, Verify, List as ListHdus, Drill, Retile}
use Rattle.fz_files.specs.Restored.{is_packed_primary}
use Rattle.fz_job.specs.Surveys.{primary_at, surveyed}
use Rattle.fz_job.specs.declared.checks.JobChecks.TheVariants.{Unpack as UnpackChecks}
use Rattle.fz_job.specs.declared.survey.Survey.{Survey}
use Rattle.fz_job.specs.Again.{WereSeen}

-- the job makes the checks of `unpack` of each header
abbrev pub ChecksAsUnpack : Job → Type 0
ChecksAsUnpack (Pack o) = ⊥
ChecksAsUnpack Unpack = ⊤
ChecksAsUnpack (Cut wanted sieve) = ⊥
ChecksAsUnpack Verify = ⊤
ChecksAsUnpack ListHdus = ⊤
ChecksAsUnpack (Drill rows) = ⊥
ChecksAsUnpack (Retile o) = ⊥

-- the headers of the file, which were seen at the first look, and where a packed primary begins that is one of them
pub record IsList (file : List ℕ) (s : Survey) (hs : List Header) : Type 0 where
  pub seen : WereSeen file s.header_len s.tile 0 0 hs
  pub count : length hs ≡ s.hdus
  pub primary : s.packed_primary ≡ primary_at (is_packed_primary file) hs

-- the largest tile that the job works on is the one that was seen; `list` works on no tiles
abbrev pub MeetsTile : Job → List ℕ → Survey → Type 0
MeetsTile ListHdus file s = ⊤
MeetsTile job file s = largest_tile job file ≡ s.tile

-- A file passed all checks, and this was learnt of it: its headers were seen, they are those that the job looks at, none is refused, and they
-- show the longest header and the largest tile that the job meets.
pub record IsKnown (job : Job) (file : List ℕ) (s : Survey) : Type 0 where
  pub headers : List Header
  pub seen : IsList file s headers
  pub are : headers_for job file ≡ headers
  pub no_fault : header_fault job file ≡ None
  pub longest : longest_header job file ≡ s.header_len
  pub largest : MeetsTile job file s

-- ---- what the law says

-- the first look knows the file
abbrev pub SurveysKnow : Job → Type 0
SurveysKnow job = (file : List ℕ) (s : Survey) → surveyed UnpackChecks file ≡ Ok s → IsKnown job file s

-- and refuses it by its first fault
abbrev pub SurveysRefuse : Job → Type 0
SurveysRefuse job = (file : List ℕ) (x : Fault) → surveyed UnpackChecks file ≡ Err x → header_fault job file ≡ Some x
