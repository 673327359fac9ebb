-- What the first look says of a file.
use Rattle.std.specs.Prelude.{ℕ, ◌≡◌, List, map, Some, None, Ok, Err}
use Rattle.fz_base.specs.declared.fault.Fault.{Fault}
use Rattle.fz_block.specs.Hdus.{AreHdusOf}
use Rattle.fz_block.specs.Walk.{hdu_of}
use Rattle.fz_block.specs.declared.header.Header.{Header}
use Rattle.fz_head.specs.declared.options.PackOptions.{PackOptions}
use Rattle.fz_job.specs.Surveys.{surveyed}
use Rattle.fz_job.specs.declared.checks.JobChecks.TheVariants.{Pack as PackChecks}
use Rattle.fz_job.specs.declared.survey.Survey.{Survey}
use Rattle.fz_files.specs.Buffers.{largest_tile, longest_header}
use Rattle.fz_files.specs.Walks.{header_fault, headers_for}
use Rattle.fz_files.specs.declared.job.Job.TheVariants.{Pack}
use Rattle.fz_pack.specs.Written.{IsList}

-- A file passed all checks, and this was learnt of it: its headers were seen, they are those of its HDUs, none is refused, and they
-- show the longest header and the largest tile that the job meets.
pub record IsKnown (o : PackOptions) (file : List ℕ) (s : Survey) : Type 0 where
  pub headers : List Header
  pub seen : IsList o file s headers
  pub are : headers_for (Pack o) file ≡ headers
  pub parts : AreHdusOf file (map (hdu_of file) headers)
  pub no_fault : header_fault (Pack o) file ≡ None
  pub longest : longest_header (Pack o) file ≡ s.header_len
  pub largest : largest_tile (Pack o) file ≡ s.tile

-- ---- what the law says

-- the first look knows the file
abbrev pub SurveysKnow : Type 0
SurveysKnow = (o : PackOptions) (file : List ℕ) (s : Survey) → surveyed (PackChecks o) file ≡ Ok s → IsKnown o file s

-- and refuses it by its first fault
abbrev pub SurveysRefuse : Type 0
SurveysRefuse = (o : PackOptions) (file : List ℕ) (x : Fault) → surveyed (PackChecks o) file ≡ Err x → header_fault (Pack o) file ≡ Some x
