-- What is read of the HDUs of a file that were seen at the first look: headers and data (FITS 4.0, sections 3.1 and 3.3).
use Rattle.std.specs.Prelude.{ℕ, ◌≡◌, ◌+◌, ◌<◌, ◌≤◌, List, ◌++◌, map, Option}
use Rattle.std.specs.List.{flat_map}
use Rattle.fz_base.specs.Ranges.{LiesIn, LogsIn}
use Rattle.fz_block.specs.declared.header.Header.{Header}
use Rattle.fz_files.specs.Cutout.{header_range}
use Rattle.fz_files.specs.Laws.{place_of}
use Rattle.fz_files.specs.declared.job.Job.TheVariants.{Pack}
use Rattle.fz_head.specs.declared.options.PackOptions.{PackOptions}
use Rattle.fz_job.specs.SurveyReads.{IsWithinOne}
use Rattle.fz_job.specs.Surveys.{survey_places}
use Rattle.fz_job.specs.declared.checks.JobChecks.TheVariants.{Pack as PackChecks}
use Rattle.fz_job.specs.declared.survey.Survey.{Survey}
use Rattle.fz_pack.specs.Known.{IsKnown}
use Rattle.fz_files.specs.Touched.{data_touched, hdus_touched, touched_by}
use Rattle.fz_pack.specs.Written.{IsList}

-- the headers and the data of some HDUs
abbrev pub ranges_of_hdus : PackOptions → List ℕ → List Header → List (ℕ × ℕ)
ranges_of_hdus o file hs = map (header_range file) (map place_of hs) ++ flat_map (data_touched (Pack o) file) hs

-- those of the HDUs that were seen were read and nothing else
abbrev pub ReadsHdus : PackOptions → List ℕ → Survey → Option (List (ℕ × ℕ)) → Option (List (ℕ × ℕ)) → Type 0
ReadsHdus o file s old new = (hs : List Header) → IsList o file s hs → LogsIn (ranges_of_hdus o file hs) old new

-- ---- what the law says

-- every byte that the first look reads is one of those that the job may read
abbrev pub LooksAreTouched : Type 0
LooksAreTouched =
    (o : PackOptions) (file : List ℕ) (range : ℕ × ℕ) → IsWithinOne (survey_places (PackChecks o) file) range → (byte : ℕ) → range.0 ≤ byte
    → byte < range.0 + range.1
    → LiesIn (touched_by (Pack o) file) byte

-- and so is every byte of the HDUs that it saw
abbrev pub HdusAreTouched : Type 0
HdusAreTouched = (o : PackOptions) (file : List ℕ) (s : Survey) (known : IsKnown o file s) → hdus_touched (Pack o) file ≡ ranges_of_hdus o file known.headers
