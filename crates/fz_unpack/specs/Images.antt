-- What restoring the tiles of an image needs, and its pixels in a sink (FITS 4.0, sections 3.3.2 and 10.1).
use Rattle.std.specs.Prelude.{ℕ, ◌≡◌, ◌+◌, ◌^◌, ◌<◌, ◌≤◌, ℤ, Bool, List, length, Option, IfSome, Result}
use Rattle.fz_base.specs.Counts.{Tally}
use Rattle.fz_base.specs.Keeps.{SinkStays, SourceStays}
use Rattle.fz_base.specs.Ranges.{LogsIn}
use Rattle.fz_base.specs.Sink.{written}
use Rattle.fz_base.specs.Stop.{IfRefused}
use Rattle.fz_base.specs.declared.failure.Stop.{Stop}
use Rattle.fz_block.specs.declared.header.Header.{Header}
use Rattle.fz_grid.specs.Arrays.{NumberArray}
use Rattle.fz_tile.specs.Plain.{plain_bytes}
use Rattle.fz_checks.specs.declared.job_checks.PackedImage.{PackedImage}
use Rattle.fz_head.specs.declared.plan.Plan.{Plan}
use Rattle.fz_files.specs.Packed.{pixel_bits, tiles_in}
use Rattle.fz_files.specs.Restored.{RowsStandFor, plan_in}
use Rattle.fz_files.specs.Touched.{image_ranges}
use Rattle.fz_fetch.specs.Fetched.{RowsGive}
use Rattle.fz_job.specs.Images.{IsReadable, IsSaid}
use Rattle.fz_fetch.specs.Rows.{StandsWithin}
use Rattle.fz_pixels.specs.Scattered.{tiles_written}
use Rattle.fz_job.specs.Clauses.{IsOfSomeRow}
use Rattle.fz_job.specs.Keeps.{Rewrites}

-- The image can be read, stands within what is attached, and has so many tiles; its pixels fit from this byte of the sink on. If the
-- bytes are shown, it is the one that the header says.
pub record CanRestore (held : Option (List ℕ)) (attached : Option ℕ) (h : Header) (image : PackedImage) (at tiles : ℕ) : Type 0 where
  pub readable : IsReadable image
  pub within : StandsWithin attached image.table
  pub said : IfSome held (λ file. IsSaid file h image)
  pub all : tiles ≡ tiles_in image.plan
  pub behind : 0 < at
  pub near : at + 2 ^ 43 ≤ 2 ^ 63

-- A call that restores tiles leaves source and sink as they were but for its writes, and says why it stopped. It refuses only rows, and reads only what
-- may be read of the image.
pub record StaysRestoring
    {S K X : Type 0} (held : S → Option (List ℕ)) (attached : S → Option ℕ) (ranges : S → Option (List (ℕ × ℕ))) (reads : S → Tally)
    (created : K → Bool) (contents : K → Option (List ℕ)) (writes : K → Tally) (h : Header) (old new : S) (before now : K)
    (result : Result X Stop) : Type 0 where
  pub source : SourceStays held attached ranges old new
  pub sink : SinkStays created contents before now
  pub row : IfRefused result IsOfSomeRow
  pub read : IfSome (held old) (λ file. LogsIn (image_ranges file h) (ranges old) (ranges new))
  pub cause : Rewrites (reads old) (reads new) (writes before) (writes now) result

-- the pixels of tiles, which their rows stand for, were written to their places
pub record AreWrittenTiles (file : List ℕ) (h : Header) (p : Plan) (at : ℕ) (tiles : List ℕ) (before now : Option (List ℕ)) : Type 0 where
  pub pixels : List (List ℤ)
  pub count : length pixels ≡ length tiles
  pub rows : RowsGive file h tiles pixels
  pub contents : now ≡ tiles_written p at tiles pixels before

-- the pixels of an image, which its rows stand for, were written from this byte on
pub record HoldsPixels (file : List ℕ) (h : Header) (at : ℕ) (before now : Option (List ℕ)) : Type 0 where
  pub array : NumberArray
  pub rows : RowsStandFor file h array
  pub contents : now ≡ written at (plain_bytes (pixel_bits (plan_in file h)) array.numbers) before
