-- No header is longer than that of the greatest bound, and no tile is larger.
use Rattle.std.proofs.Common.{◌≡◌, ℕ, ◌≤◌, List, arith}
use Rattle.fz_files.specs.Buffers.{job_bound, largest_tile, longest_header, workers_of}
use Rattle.fz_files.specs.Ends.{HeadersAreShort, ListHasNoTiles, TilesAreSmall}
use Rattle.fz_files.specs.Laws.{BoundRises}
use Rattle.fz_files.specs.declared.job.Job.{Job}
use Rattle.fz_files.specs.declared.job.Job.TheVariants.{Pack, Unpack, Cut, Verify, List as ListHdus, Drill, Retile}
use Rattle.fz_job.specs.Clauses.{greatest_bound, greatest_tile}

module _ (short : HeadersAreShort) (small : TilesAreSmall) (none : ListHasNoTiles) where
  tile_within : (job : Job) (file : List ℕ) → largest_tile job file ≤ greatest_tile job
  tile_within (Pack o) file = small (Pack o) file
  tile_within Unpack file = small Unpack file
  tile_within (Cut wanted sieve) file = small (Cut wanted sieve) file
  tile_within Verify file = small Verify file
  tile_within ListHdus file = let zero_is : largest_tile ListHdus file ≡ 0 = none file in omega (arith, zero_is)
  tile_within (Drill rows) file = small (Drill rows) file
  tile_within (Retile o) file = small (Retile o) file

  pub bound_within : BoundRises → (job : Job) (file : List ℕ) (asked : ℕ) → job_bound job file asked ≤ greatest_bound job asked
  bound_within rises job file asked =
      rises (longest_header job file) 737280 (largest_tile job file) (greatest_tile job) (workers_of job asked) (workers_of job asked) (short job file) (tile_within job file) (omega arith)
