-- Whether words ask for anything.
use Rattle.std.specs.Prelude.{ℕ, ◌||◌, Bool, List, is_some}
use Rattle.fz_words.specs.Jobs.{job_of}
use Rattle.fz_words.specs.PatchJobs.{patch_job_of}

-- the words ask for a job or for a patch
abbrev pub asks : List (List ℕ) → Bool
asks words = is_some (job_of words) || is_some (patch_job_of words)
