-- Where the walk of a job over the headers of a file ends if a header is rejected, and which limits no file passes (FITS 4.0,
-- sections 3.1, 7.3 and 10.1).
use Rattle.std.specs.Prelude.{ℕ, ◌≡◌, ◌⊎◌, ◌+◌, ◌≤◌, ◌^◌, All, List, [], ◌∷◌, ◌++◌, length, map, Option, Some, Ok, Err}
use Rattle.fz_base.specs.Refusal.{refusal}
use Rattle.fz_base.specs.declared.fault.Fault.{Fault}
use Rattle.fz_base.specs.declared.fault.Place.TheVariants.{Byte}
use Rattle.fz_base.specs.declared.kind.Kind.TheVariants.{Limit}
use Rattle.fz_block.specs.Checks.{Judge, hdu_at, unjudged}
use Rattle.fz_block.specs.Header.{next_start_of}
use Rattle.fz_block.specs.declared.header.Header.{Header}
use Rattle.fz_grid.specs.declared.sieve.Sieve.{Sieve}
use Rattle.fz_checks.specs.Judges.{cut_judge, pack_judge, unpack_judge}
use Rattle.fz_files.specs.declared.job.Job.{Job}
use Rattle.fz_files.specs.declared.job.Job.TheVariants.{Pack, Unpack, Cut, Verify, List as ListHdus, Drill, Retile}
use Rattle.fz_files.specs.Buffers.{largest_tile, longest_header}
use Rattle.fz_files.specs.Cutout.{touched}
use Rattle.fz_files.specs.Laws.{place_of}
use Rattle.fz_files.specs.Walks.{Reached, box_of, cut_end_fault, header_fault, job_walk, reached_by}

-- what a job says of an HDU that passes the checks of every job; `drill` looks at no file
abbrev pub judge_for : Job → List ℕ → Judge
judge_for (Pack o) file = pack_judge o file
judge_for Unpack file = unpack_judge file
judge_for (Cut wanted sieve) file = cut_judge wanted (box_of sieve) file
judge_for Verify file = unpack_judge file
judge_for ListHdus file = unpack_judge file
judge_for (Drill rows) file = unjudged
judge_for (Retile o) file = unpack_judge file

-- how many HDUs it may look at
abbrev pub most_for : Job → ℕ
most_for (Pack o) = 65535
most_for Unpack = 65536
most_for (Cut wanted sieve) = 65536
most_for Verify = 65536
most_for ListHdus = 65536
most_for (Drill rows) = 0
most_for (Retile o) = 65536

-- an HDU is rejected for this fault: by the checks of every job, or by those of the job
abbrev pub IsRejectedAt : Judge → List ℕ → Reached → Fault → Type 0
IsRejectedAt judge file r x = (hdu_at r.hdu r.start file ≡ Err x) ⊎ ((h : Header) × (hdu_at r.hdu r.start file ≡ Ok h) × (judge h ≡ Err x))

-- the last HDU that is reached is the one that is rejected, and the fault is one of this HDU
pub record EndsAtTheFault (job : Job) (file : List ℕ) (x : Fault) : Type 0 where
  pub before : List Reached
  pub last : Reached
  pub ends : reached_by job file ≡ before ++ last ∷ []
  pub number : last.hdu ≡ length before
  pub rejected : IsRejectedAt (judge_for job file) file last x
  pub hdu : x.hdu ≡ last.hdu

-- as many HDUs are reached as the job may look at, and the fault is that of one more, at the byte after the last of them
pub record EndsAtTheLimit (job : Job) (file : List ℕ) (x : Fault) : Type 0 where
  pub many : length (reached_by job file) ≡ most_for job
  pub before : List Reached
  pub last : Reached
  pub ends : reached_by job file ≡ before ++ last ∷ []
  pub header : Header
  pub found : hdu_at last.hdu last.start file ≡ Ok header
  pub fault : x ≡ refusal (most_for job) (Byte (next_start_of header)) Limit

-- no header is rejected, all HDUs are reached, and the HDU that a part is cut from is not among them
pub record EndsWithTheFile (job : Job) (file : List ℕ) (x : Fault) : Type 0 where
  pub found : List Header
  pub walk : job_walk job file ≡ Ok found
  pub reached : reached_by job file ≡ map place_of found
  pub missing : cut_end_fault job file found ≡ Some x

-- if the headers of a file have a fault for a job, the walk ends there
abbrev pub WalksEndAtTheFault : Type 0
WalksEndAtTheFault =
    (job : Job) (file : List ℕ) (x : Fault) → header_fault job file ≡ Some x
    → EndsAtTheFault job file x ⊎ (EndsAtTheLimit job file x ⊎ EndsWithTheFile job file x)

-- no header that a job meets is longer than 256 blocks of 2,880 bytes
abbrev pub HeadersAreShort : Type 0
HeadersAreShort = (job : Job) (file : List ℕ) → longest_header job file ≤ 737280

-- no tile that a job works on has more than 2^26 pixels, and `list` works on none
abbrev pub TilesAreSmall : Type 0
TilesAreSmall = (job : Job) (file : List ℕ) → largest_tile job file ≤ 2 ^ 26

abbrev pub ListHasNoTiles : Type 0
ListHasNoTiles = (file : List ℕ) → largest_tile ListHdus file ≡ 0

-- what a cut may read lies within the file
abbrev pub CutsLieWithin : Type 0
CutsLieWithin = (wanted : Option ℕ) (sieve : Sieve) (file : List ℕ) → All (λ range. range.0 + range.1 ≤ length file) (touched wanted sieve file)
