-- The headers that are read: at the first look, and once more after it (FITS 4.0, section 3.1).
use Rattle.std.specs.Prelude.{ℕ, ◌≡◌, ◌+◌, ◌<◌, ◌≤◌, List, map}
use Rattle.fz_base.specs.Ranges.{LiesIn}
use Rattle.fz_block.specs.declared.header.Header.{Header}
use Rattle.fz_files.specs.Cutout.{header_range}
use Rattle.fz_files.specs.Laws.{place_of}
use Rattle.fz_files.specs.Reads.{header_ranges}
use Rattle.fz_files.specs.declared.job.Job.{Job}
use Rattle.fz_job.specs.SurveyReads.{IsWithinOne}
use Rattle.fz_job.specs.Surveys.{survey_places}
use Rattle.fz_job.specs.declared.checks.JobChecks.TheVariants.{Unpack as UnpackChecks}
use Rattle.fz_job.specs.declared.survey.Survey.{Survey}
use Rattle.fz_job.specs.Known.{IsKnown}

-- the headers of some HDUs, as ranges
abbrev pub ranges_of_headers : List ℕ → List Header → List (ℕ × ℕ)
ranges_of_headers file hs = map (header_range file) (map place_of hs)

-- every byte that the first look reads is one of the headers that the job comes to
abbrev pub LooksReadHeaders : Job → Type 0
LooksReadHeaders job =
    (file : List ℕ) (range : ℕ × ℕ) → IsWithinOne (survey_places UnpackChecks file) range → (byte : ℕ) → range.0 ≤ byte → byte < range.0 + range.1
    → LiesIn (header_ranges job file) byte

-- and these are the headers that it saw
abbrev pub HeadersAreSeen : Job → Type 0
HeadersAreSeen job = (file : List ℕ) (s : Survey) (known : IsKnown job file s) → header_ranges job file ≡ ranges_of_headers file known.headers
