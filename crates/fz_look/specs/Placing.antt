-- A tile of an image whose rows are not faulty, of which a part goes to its place in the band (FITS 4.0, sections 3.3.2 and 10.1).
use Rattle.std.specs.Prelude.{ℕ, ◌+◌, ◌*◌, ◌/◌, ◌<◌, ◌≤◌, IsTrue, List, Option, IfSome, Result}
use Rattle.fz_base.specs.Counts.{Tally}
use Rattle.fz_base.specs.Keeps.{SourceStays}
use Rattle.fz_base.specs.Ranges.{LogsIn}
use Rattle.fz_base.specs.Stop.{IfRefused, ReadsOnly}
use Rattle.fz_base.specs.declared.failure.Stop.{Stop}
use Rattle.fz_block.specs.declared.header.Header.{Header}
use Rattle.fz_grid.specs.Arrays.{product}
use Rattle.fz_grid.specs.Overlap.{has_pixel}
use Rattle.fz_grid.specs.Region.{lengths_of}
use Rattle.fz_grid.specs.Sieve.{IsSieveOf, sieve_lengths}
use Rattle.fz_grid.specs.declared.sieve.Sieve.{Sieve}
use Rattle.fz_grid.specs.Cutout.{part_lengths}
use Rattle.fz_tile.specs.Pixels.{place_count}
use Rattle.fz_checks.specs.declared.job_checks.PackedImage.{PackedImage}
use Rattle.fz_head.specs.declared.plan.Plan.{Plan}
use Rattle.fz_files.specs.Packed.{pixel_bits, tiles_in}
use Rattle.fz_files.specs.Restored.{pixels_of}
use Rattle.fz_files.specs.Touched.{touched_by}
use Rattle.fz_files.specs.declared.job.Job.TheVariants.{Unpack}
use Rattle.fz_job.specs.Images.{IsReadable}
use Rattle.fz_fetch.specs.Rows.{StandsWithin}
use Rattle.fz_job.specs.Clauses.{IsOfSomeRow}
use Rattle.fz_look.specs.Laws.{IsKnownImage}

-- The image can be read from what is attached, and is one of the file that is known; the sieve is one of it and picks a pixel of tile t; a band of
-- so many bytes has room for all picks.
pub record CanPlace
    (held : Option (List ℕ)) (attached : Option ℕ) (h : Header) (image : PackedImage) (t : ℕ) (sieve : Sieve) (band : ℕ) : Type 0 where
  pub readable : IsReadable image
  pub within : StandsWithin attached image.table
  pub known : IfSome held (λ g. IsKnownImage g h image)
  pub sieve_of : IsSieveOf image.plan.shape sieve
  pub number : t < tiles_in image.plan
  pub picked : IsTrue (has_pixel (part_lengths (lengths_of image.plan.shape) (lengths_of image.plan.tile) sieve t))
  pub room : pixel_bits image.plan / 8 * product (sieve_lengths sieve) ≤ band

-- so many numbers hold the pixels of the largest tile, and so many bytes what is read of its record
pub record HoldLargest (p : Plan) (numbers code : ℕ) : Type 0 where
  pub numbers_fit : place_count (pixel_bits p) (pixels_of p 0) ≤ numbers
  pub code_fits : 8 * pixels_of p 0 + 64 ≤ code

-- A call that reads tiles leaves the source as it was, and says why it stopped. It refuses only rows, and none of a file that is shown; it reads only
-- what `unpack` may read.
pub record StaysReading
    {S X : Type 0} (held : S → Option (List ℕ)) (attached : S → Option ℕ) (ranges : S → Option (List (ℕ × ℕ)))
    (tally : S → Tally) (old new : S) (result : Result X Stop) : Type 0 where
  pub source : SourceStays held attached ranges old new
  pub row : IfRefused result IsOfSomeRow
  pub never : IfSome (held old) (λ g. IfRefused result (λ x. ⊥))
  pub read : IfSome (held old) (λ g. LogsIn (touched_by Unpack g) (ranges old) (ranges new))
  pub cause : ReadsOnly (tally old) (tally new) result
