-- Tiles of the image that the numbers of a plan say.
use Rattle.std.proofs.Common.{◌≡◌, ℕ, ◌<◌, ℤ, List, take, subst, arith}
use Rattle.fz_table.specs.declared.record.Record.{Record}
use Rattle.fz_tile.specs.declared.fault.TileFault.{TileFault}
use Rattle.fz_checks.specs.declared.job_checks.PackedImage.{PackedImage}
use Rattle.fz_flat.specs.declared.plan.FzPlan.{FzPlan}
use Rattle.fz_flat.specs.Lawful.{IsLawful, IsPlanOfIts, IsTileOf}
use Rattle.fz_flat.specs.Plans.{image_there}
use Rattle.fz_flat.specs.Rows.{TileIsFaulty, TileMeans, read_of}
use Rattle.fz_flat.specs.Tiles.{tiles_in}
use Rattle.fz_c.specs.Images.{bytes_read, plan_there}

-- each row has a tile
pub tile_of_plan : (plan : FzPlan) (tile : ℕ) → IsLawful plan → IsPlanOfIts plan → tile < plan.rows → IsTileOf plan tile
tile_of_plan plan tile lawful its below = record {
  lawful = lawful;
  tile_in = subst (λ n. tile < n) its.packed.rows below;
}

module _ (plan : FzPlan) (image : PackedImage) (tile : ℕ) (found : Record) (code : List ℕ) (len : ℕ) (there : image ≡ image_there plan) (is : len ≡ read_of (plan_there plan) tile found) where
  -- what was read of the record is what is asked for
  pub means : (before numbers : List ℤ) → TileMeans image.plan tile found (take len code) before numbers → TileMeans (plan_there plan) tile found (bytes_read plan tile found code) before numbers
  means before numbers holds =
      subst (λ n. TileMeans (plan_there plan) tile found (take n code) before numbers) is (subst (λ (i : PackedImage). TileMeans i.plan tile found (take len code) before numbers) there holds)

  pub faulty : (why : TileFault) → TileIsFaulty image.plan tile found (take len code) why → TileIsFaulty (plan_there plan) tile found (bytes_read plan tile found code) why
  faulty why holds =
      subst (λ n. TileIsFaulty (plan_there plan) tile found (take n code) why) is (subst (λ (i : PackedImage). TileIsFaulty i.plan tile found (take len code) why) there holds)
