-- The headers of the file that is packed anew are no longer than those of the packed file, so that its longest header is one of IN (FITS 4.0,
-- sections 3.3.1 and 10.1).
use Rattle.std.specs.Prelude.{ℕ, ◌≡◌, ◌≤◌, List}
use Rattle.fz_base.specs.JobBuffers.{buffer_bound}
use Rattle.fz_tile.specs.Plain.{AreBytes}
use Rattle.fz_head.specs.declared.options.PackOptions.{PackOptions}
use Rattle.fz_files.specs.Buffers.{job_bound, largest_plain, largest_tile, longest_plain, longest_reached, packing_bound}
use Rattle.fz_files.specs.Retiled.{plain_of}
use Rattle.fz_files.specs.declared.job.Job.TheVariants.{Retile, Unpack}

-- no header that `pack` comes to in the file that a packed file stands for is longer than the longest that `unpack` comes to in the packed file
abbrev pub NoHeaderIsLonger : Type 0
NoHeaderIsLonger = (o : PackOptions) (file : List ℕ) → AreBytes file → longest_plain o (plain_of file) ≤ longest_reached Unpack file

-- The bound of the meter of which the file is packed anew has the longest header of the packed file; and so has that of both meters as one.
pub record HasBoundsOfIn (o : PackOptions) (file : List ℕ) (asked : ℕ) : Type 0 where
  pub packing : packing_bound o file asked ≡ buffer_bound (longest_reached Unpack file) (largest_plain o (plain_of file)) asked
  pub both : job_bound (Retile o) file asked ≡ buffer_bound (longest_reached Unpack file) (largest_tile (Retile o) file) asked

abbrev pub BoundsAreOfIn : Type 0
BoundsAreOfIn = (o : PackOptions) (file : List ℕ) (asked : ℕ) → AreBytes file → HasBoundsOfIn o file asked
