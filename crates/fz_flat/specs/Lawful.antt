-- Which numbers are the plan of a packed image (FITS 4.0, sections 7.3.5, 10.1 and 10.4).
use Rattle.std.specs.Prelude.{ℕ, ◌≡◌, ◌<◌}
use Rattle.fz_grid.specs.Region.{IsDivided, lengths_of}
use Rattle.fz_table.specs.Rows.{IsTable}
use Rattle.fz_tile.specs.Codecs.{CanRead}
use Rattle.fz_head.specs.Planned.{is_wide}
use Rattle.fz_checks.specs.declared.job_checks.PackedImage.{PackedImage}
use Rattle.fz_flat.specs.declared.plan.FzPlan.{FzPlan}
use Rattle.fz_flat.specs.Plans.{flat_plan, image_there}
use Rattle.fz_flat.specs.Tiles.{tiles_in}

-- A packed image by its values: its table has rows, a heap and columns that end within the file, its plan divides it into tiles that can
-- be read, each tile has a row, and whether its plain bytes pass 31 bits is as its lengths say. Each image that a header says is one.
pub record IsPackedImage (image : PackedImage) : Type 0 where
  pub table : IsTable image.table
  pub divided : IsDivided image.plan.shape image.plan.tile
  pub codec : CanRead image.plan.codec image.plan.bitpix
  pub rows : image.table.rows ≡ tiles_in image.plan
  pub wide : image.plan.wide ≡ is_wide image.plan.bitpix (lengths_of image.plan.shape)

-- some packed image has this plan
pub record IsLawful (plan : FzPlan) : Type 0 where
  pub image : PackedImage
  pub packed : IsPackedImage image
  pub is_plan : plan ≡ flat_plan image

-- the plan is that of the image that its numbers say
pub record IsPlanOfIts (plan : FzPlan) : Type 0 where
  pub packed : IsPackedImage (image_there plan)
  pub is_plan : plan ≡ flat_plan (image_there plan)

-- a tile of the image of a lawful plan
pub record IsTileOf (plan : FzPlan) (tile : ℕ) : Type 0 where
  pub lawful : IsLawful plan
  pub tile_in : tile < tiles_in (image_there plan).plan
