-- What is read of a file that is compared: headers, the tables of packed images, and what is before them (FITS 4.0, sections 3.1, 7.3.5
-- and 10.1).
use Rattle.std.specs.Prelude.{ℕ, List, ◌∷◌, Option}
use Rattle.fz_base.specs.Ranges.{LogsIn}
use Rattle.fz_block.specs.Header.{next_start_of}
use Rattle.fz_block.specs.declared.header.Header.{Header}
use Rattle.fz_files.specs.Touched.{image_ranges, packed_ranges}
use Rattle.fz_files.specs.declared.job.Job.TheVariants.{Unpack, Verify}
use Rattle.fz_job.specs.declared.survey.Survey.{Survey}
use Rattle.fz_job.specs.Hdus.{ranges_of_hdus}
use Rattle.fz_job.specs.Known.{IsKnown}

-- the file up to the end of a packed image, whose rows and records are read as `verify` reads them
abbrev pub table_ranges : List ℕ → Header → List (ℕ × ℕ)
table_ranges file h = (0, next_start_of h) ∷ image_ranges file h

-- the same of any HDU: one that is not packed has no rows
abbrev pub hdu_ranges : List ℕ → Header → List (ℕ × ℕ)
hdu_ranges file h = (0, next_start_of h) ∷ packed_ranges file h

-- of a file that the first look knows only this was read: what `verify` reads of its HDUs
abbrev pub ReadsKnown : List ℕ → Survey → Option (List (ℕ × ℕ)) → Option (List (ℕ × ℕ)) → Type 0
ReadsKnown file s old new = (known : IsKnown Unpack file s) → LogsIn (ranges_of_hdus Verify file known.headers) old new
