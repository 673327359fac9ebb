-- The bound of a job on a file is at most the greatest bound of the job.
use Rattle.std.specs.Prelude.{ℕ, ◌≤◌, List}
use Rattle.fz_files.specs.Buffers.{job_bound}
use Rattle.fz_files.specs.declared.job.Job.{Job}
use Rattle.fz_job.specs.Clauses.{greatest_bound}

-- whatever the file is, and for every number of workers
abbrev pub NoBoundIsGreater : Type 0
NoBoundIsGreater = (job : Job) (file : List ℕ) (asked : ℕ) → job_bound job file asked ≤ greatest_bound job asked
