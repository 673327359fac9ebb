-- What a job may read lies in the file: headers, descriptors, records, data and padding (FITS 4.0, sections 3.1, 3.3, 7.3.5 and 10.1).
use Rattle.std.specs.Prelude.{ℕ, ◌+◌, ◌≤◌, All, List, length}
use Rattle.fz_files.specs.Touched.{touched_by}
use Rattle.fz_files.specs.declared.job.Job.{Job}

-- each range of the file that the job may read ends in the file, or where the file ends
abbrev pub TouchedLieWithin : Type 0
TouchedLieWithin = (job : Job) (file : List ℕ) → All (λ range. range.0 + range.1 ≤ length file) (touched_by job file)
