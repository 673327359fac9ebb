-- Where the headers and the rows are that a cut reads, and how a part begins (FITS 4.0, sections 3.1, 4.4.1.1 and 10.1).
use Rattle.std.specs.Prelude.{ℕ, ◌≡◌, ◌+◌, ◌≤◌, ◌<◌, List, ◌∷◌, drop, Option}
use Rattle.fz_block.specs.declared.header.Header.{Header}
use Rattle.fz_base.specs.Ranges.{LiesIn}
use Rattle.fz_grid.specs.declared.sieve.Sieve.{Sieve}
use Rattle.fz_job.specs.Surveys.{survey_places}
use Rattle.fz_job.specs.SurveyReads.{IsWithinOne}
use Rattle.fz_job.specs.declared.checks.JobChecks.TheVariants.{Cut as CutChecks}
use Rattle.fz_job.specs.declared.survey.Survey.{Survey}
use Rattle.fz_files.specs.Cutout.{touched}
use Rattle.fz_files.specs.Walks.{box_of}
use Rattle.fz_cut.specs.Part.{IsPartOf}
use Rattle.fz_cut.specs.Known.{IsKnown}
use Rattle.fz_cut.specs.Written.{work_ranges}

-- what the first look reads lies in the touched ranges
abbrev pub LooksAreTouched : Type 0
LooksAreTouched =
    (wanted : Option ℕ) (sieve : Sieve) (file : List ℕ) (range : ℕ × ℕ) → IsWithinOne (survey_places (CutChecks wanted (box_of sieve)) file) range
    → (byte : ℕ) → range.0 ≤ byte → byte < range.0 + range.1 → LiesIn (touched wanted sieve file) byte

-- and so do the header that is read once more, and the rows and records of the tiles that hold a pick
abbrev pub WorkIsTouched : Type 0
WorkIsTouched =
    (wanted : Option ℕ) (sieve : Sieve) (file : List ℕ) (s : Survey) (known : IsKnown wanted sieve file s) (byte : ℕ)
    → LiesIn (work_ranges file sieve known.from) byte → LiesIn (touched wanted sieve file) byte

-- a part begins with the S of SIMPLE
abbrev pub PartsBegin : Type 0
PartsBegin = (file : List ℕ) (h : Header) (sieve : Sieve) (bytes : List ℕ) → IsPartOf file h sieve bytes → bytes ≡ 83 ∷ drop 1 bytes
