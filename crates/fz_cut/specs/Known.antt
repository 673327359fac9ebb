-- What the first look says of a file.
use Rattle.std.specs.Prelude.{ℕ, ◌≡◌, List, [], ◌∷◌, Option, Some, None, Ok, Err}
use Rattle.fz_base.specs.declared.fault.Fault.{Fault}
use Rattle.fz_block.specs.declared.header.Header.{Header}
use Rattle.fz_grid.specs.declared.sieve.Sieve.{Sieve}
use Rattle.fz_job.specs.Surveys.{cut_surveyed}
use Rattle.fz_job.specs.declared.survey.Survey.{Survey}
use Rattle.fz_files.specs.Buffers.{largest_tile, longest_header}
use Rattle.fz_files.specs.Walks.{box_of, header_fault, headers_for, last_of}
use Rattle.fz_files.specs.declared.job.Job.TheVariants.{Cut}
use Rattle.fz_cut.specs.Again.{WasSeen}

-- No header of the file is refused, and this was learnt of it: the HDU that is cut from was seen, and is the last one that the job looks at;
-- the longest header and the largest tile are those that the job meets.
pub record IsKnown (wanted : Option ℕ) (sieve : Sieve) (file : List ℕ) (s : Survey) : Type 0 where
  pub from : Header
  pub stopped : s.stopped ≡ Some from
  pub seen : WasSeen file (box_of sieve) s.header_len s.tile from
  pub last : last_of (headers_for (Cut wanted sieve) file) ≡ from ∷ []
  pub no_fault : header_fault (Cut wanted sieve) file ≡ None
  pub longest : longest_header (Cut wanted sieve) file ≡ s.header_len
  pub largest : largest_tile (Cut wanted sieve) file ≡ s.tile

-- ---- what the law says

-- the first look knows the file
abbrev pub SurveysKnow : Type 0
SurveysKnow = (wanted : Option ℕ) (sieve : Sieve) (file : List ℕ) (s : Survey) → cut_surveyed wanted (box_of sieve) file ≡ Ok s → IsKnown wanted sieve file s

-- and refuses it by its first fault
abbrev pub SurveysRefuse : Type 0
SurveysRefuse =
    (wanted : Option ℕ) (sieve : Sieve) (file : List ℕ) (x : Fault) → cut_surveyed wanted (box_of sieve) file ≡ Err x
    → header_fault (Cut wanted sieve) file ≡ Some x
