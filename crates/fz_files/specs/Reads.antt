-- The headers of a file that a job reads, as ranges (FITS 4.0, sections 3.1 and 3.3.1).
use Rattle.std.specs.Prelude.{ℕ, List, map}
use Rattle.fz_files.specs.Cutout.{header_range}
use Rattle.fz_files.specs.Walks.{reached_by}
use Rattle.fz_files.specs.declared.job.Job.{Job}

-- the headers of the HDUs that the checks of a job come to, each as far as the search for its END looks
abbrev pub header_ranges : Job → List ℕ → List (ℕ × ℕ)
header_ranges job file = map (header_range file) (reached_by job file)
