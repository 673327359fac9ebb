-- The buffers of `drill`: those of the jobs that it runs, one after another.
use Rattle.std.specs.Prelude.{ℕ, List, []}
use Rattle.fz_files.specs.Buffers.{job_bound, job_takings}
use Rattle.fz_files.specs.declared.job.Job.TheVariants.{Drill}

-- their bound, whatever the rows are
abbrev pub drill_bound : ℕ → ℕ
drill_bound rows = job_bound (Drill rows) [] 4

-- what the jobs take of the meter, one job after another
abbrev pub takings_of : ℕ → List (ℕ × ℕ)
takings_of rows = job_takings (Drill rows) [] 4
