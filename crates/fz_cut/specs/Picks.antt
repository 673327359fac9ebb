-- The picks of an image in a sink (FITS 4.0, sections 3.3.2 and 10.1).
use Rattle.std.specs.Prelude.{ℕ, ◌≡◌, ◌+◌, ◌^◌, ◌<◌, ◌≤◌, ℤ, List, length, Option, IfSome}
use Rattle.std.specs.List.{flat_map}
use Rattle.fz_base.specs.Sink.{written}
use Rattle.fz_block.specs.declared.header.Header.{Header}
use Rattle.fz_grid.specs.Arrays.{NumberArray}
use Rattle.fz_grid.specs.Sieve.{IsSieveOf}
use Rattle.fz_grid.specs.declared.sieve.Sieve.{Sieve}
use Rattle.fz_grid.specs.Cutout.{picked_numbers}
use Rattle.fz_tile.specs.Plain.{plain_bytes}
use Rattle.fz_head.specs.declared.plan.Plan.{Plan}
use Rattle.fz_files.specs.Cutout.{PickedRowsStandFor, ranges_of_row}
use Rattle.fz_files.specs.FirstFault.{picked_rows}
use Rattle.fz_files.specs.Packed.{pixel_bits}
use Rattle.fz_fetch.specs.Fetched.{RowsGive}
use Rattle.fz_job.specs.Images.{IsReadable}
use Rattle.fz_pixels.specs.Scattered.{parts_written}
use Rattle.fz_cut.specs.declared.picks.Picking.{Picking}

-- the image can be read, the sieve is one of it, and a file has room for all picks from the byte on where they begin
pub record IsPickable (p : Picking) : Type 0 where
  pub image : IsReadable p.image
  pub sieve : IsSieveOf p.image.plan.shape p.sieve
  pub room : (0 < p.data_at) × (p.data_at + 2 ^ 43 ≤ 2 ^ 63)

-- the picks of tiles were written to their places
pub record AreWrittenParts
    (held : Option (List ℕ)) (h : Header) (p : Plan) (sieve : Sieve) (at : ℕ) (tiles : List ℕ)
    (before now : Option (List ℕ)) : Type 0 where
  pub pixels : List (List ℤ)
  pub count : length pixels ≡ length tiles
  pub told : IfSome held (λ file. RowsGive file h tiles pixels)
  pub contents : now ≡ parts_written p sieve at tiles pixels before

-- The numbers of an array at the picks of a sieve were written from this byte on. The rows of the tiles that hold a pick stand for its tiles.
pub record HoldsPicks (file : List ℕ) (h : Header) (p : Plan) (sieve : Sieve) (at : ℕ) (before now : Option (List ℕ)) : Type 0 where
  pub array : NumberArray
  pub rows : PickedRowsStandFor file h sieve array
  pub contents : now ≡ written at (plain_bytes (pixel_bits p) (picked_numbers array sieve)) before

-- the ranges of the file that the rows and records of the tiles with a pick take
abbrev pub picked_ranges : List ℕ → Header → Sieve → List (ℕ × ℕ)
picked_ranges file h sieve = flat_map (ranges_of_row file) (picked_rows file sieve h)
