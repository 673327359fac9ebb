-- A packed image whose tiles are fetched, and the slots that they are fetched into (FITS 4.0, sections 7.3.5 and 10.1).
use Rattle.std.specs.Prelude.{ℕ, ◌≡◌, ◌+◌, ◌*◌, ◌<◌, ◌≤◌, List, length, slice_index, map}
use Rattle.fz_block.specs.declared.header.Header.{Header}
use Rattle.fz_grid.specs.Region.{IsDivided}
use Rattle.fz_table.specs.Rows.{IsTable}
use Rattle.fz_tile.specs.Codecs.{CanRead}
use Rattle.fz_checks.specs.declared.job_checks.PackedImage.{PackedImage}
use Rattle.fz_files.specs.Packed.{tiles_in}
use Rattle.fz_files.specs.Restored.{image_table, pixels_of, plan_in}
use Rattle.fz_pool.specs.Window.{HasSlotsFor, Pool}
use Rattle.std.specs.List.{flat_map}
use Rattle.fz_files.specs.Cutout.{ranges_of_row}
use Rattle.fz_files.specs.FirstFault.{image_row}

-- a packed image that can be read: its plan divides it into tiles that can be decoded, of which each has a row
pub record IsReadable (image : PackedImage) : Type 0 where
  pub table : IsTable image.table
  pub divided : IsDivided image.plan.shape image.plan.tile
  pub codec : CanRead image.plan.codec image.plan.bitpix
  pub rows : image.table.rows ≡ tiles_in image.plan

-- if the bytes are shown, it is the image that the header of an HDU says
pub record IsSaid (file : List ℕ) (h : Header) (image : PackedImage) : Type 0 where
  pub plan : plan_in file h ≡ image.plan
  pub table : image_table file h ≡ image.table

-- these are numbers of tiles of the image
abbrev pub AreTilesOf : PackedImage → List ℕ → Type 0
AreTilesOf image tiles = (i : ℕ) → i < length tiles → slice_index tiles i < tiles_in image.plan

-- so do those of the image's largest tile, which is tile 0
abbrev pub HaveRoom : PackedImage → Pool → Type 0
HaveRoom image w = HasSlotsFor (pixels_of image.plan 0) w

-- and the buffers of one such slot
abbrev pub HasSlotFor : ℕ → ℕ × ℕ → Type 0
HasSlotFor pixels size = (n : ℕ) × (size ≡ (2 * n, 8 * n + 64)) × (pixels ≤ n)

-- the ranges of the file that the fetching of tiles touches
abbrev pub fetched_ranges : List ℕ → Header → List ℕ → List (ℕ × ℕ)
fetched_ranges file h tiles = flat_map (ranges_of_row file) (map (image_row h) tiles)
