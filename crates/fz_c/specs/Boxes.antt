-- What the answers of the calls of boxes say, by the plan (FITS 4.0, sections 4.4.1, 7.3.5 and 10.1). Each test comes after those before it.
use Rattle.std.specs.Prelude.{ℕ, ◌≡◌, ◌<◌, ◌≤◌, ℤ, pos, List, length, Result}
use Rattle.std.specs.Result.{MatchResult}
use Rattle.fz_grid.specs.Sieve.{IsSieveOf}
use Rattle.fz_checks.specs.declared.job_checks.PackedImage.{PackedImage}
use Rattle.fz_flat.specs.Boxes.{AreListed, HasBox, RowsStop, TilesStop, needs_of, numbers_in, picked_in, sieve_there}
use Rattle.fz_flat.specs.Lawful.{IsLawful, IsPackedImage}
use Rattle.fz_flat.specs.Plans.{image_there}
use Rattle.fz_flat.specs.Tiles.{places_of}
use Rattle.fz_flat.specs.declared.boxes.FzBox.{FzBox}
use Rattle.fz_flat.specs.declared.needs.FzNeeds.{FzNeeds}
use Rattle.fz_flat.specs.declared.plan.FzPlan.{FzPlan}
use Rattle.fz_flat.specs.declared.record.FzRecord.{FzRecord}
use Rattle.fz_flat.specs.declared.stops.Stopped.{Stopped}
use Rattle.fz_flat.specs.declared.stops.Why.{Why}
use Rattle.fz_flat.specs.declared.stops.Why.TheVariants as why
use Rattle.fz_c.specs.Faults.{answer_of}
use Rattle.fz_c.specs.Images.{plan_there}
use Rattle.fz_c.specs.declared.boxes.Sifted.{Sifted}
use Rattle.fz_c.specs.declared.fault.Fault.{Fault}
use Rattle.fz_c.specs.declared.fault.Fault.TheVariants.{FewBytes, FewPlaces, FewRows, NoBox, NoPlan, NoRoom, Rejected}

-- a box of the image of a lawful plan
pub record IsBoxOf (plan : FzPlan) (part : FzBox) : Type 0 where
  pub lawful : IsLawful plan
  pub box : IsSieveOf (plan_there plan).shape (sieve_there part)

-- the tiles with a pixel of the box
abbrev pub tiles_of : FzPlan → FzBox → List ℕ
tiles_of plan part = picked_in (plan_there plan) (sieve_there part)

-- the answer for what a tile lacks
abbrev pub fault_for_tile : Why → Fault
fault_for_tile why.FewRows = FewRows
fault_for_tile why.FewBytes = FewBytes
fault_for_tile (why.Refused kind) = Rejected kind

-- there is no such plan, or no such box
pub data IsNoBox (plan : FzPlan) (part : FzBox) (fault : Fault) : Type 0 where
  no_plan : fault ≡ NoPlan → ¬ IsLawful plan → IsNoBox plan part fault
  no_box : fault ≡ NoBox → IsLawful plan → ¬ IsSieveOf (plan_there plan).shape (sieve_there part) → IsNoBox plan part fault

-- the image of the plan, and the sieve of the box
pub record IsSifted (plan : FzPlan) (part : FzBox) (sifted : Sifted) : Type 0 where
  pub of : IsBoxOf plan part
  pub image : sifted.image ≡ image_there plan
  pub sieve : sifted.sieve ≡ sieve_there part
  pub packed : IsPackedImage sifted.image
  pub box : IsSieveOf sifted.image.plan.shape sifted.sieve

-- these, or why there are none
abbrev pub IsSiftedFor : FzPlan → FzBox → Result Sifted Fault → Type 0
IsSiftedFor plan part result = MatchResult result (IsSifted plan part) (IsNoBox plan part)

-- the answer of `fz_box_needs`
pub data SaysNeeds (plan : FzPlan) (part : FzBox) (needs : FzNeeds) (answer : ℤ) : Type 0 where
  -- this is what the box needs
  done : answer ≡ pos 0 → IsBoxOf plan part → needs ≡ needs_of (image_there plan) (sieve_there part) → SaysNeeds plan part needs answer
  -- there is no such plan, or no such box
  none : (fault : Fault) → answer ≡ answer_of fault → IsNoBox plan part fault → SaysNeeds plan part needs answer

-- the answer of `fz_box_reads`
pub data ListsReads (plan : FzPlan) (part : FzBox) (from : ℕ) (rows : List ℕ) (before reads : List FzRecord) (tile_before tile : ℕ) (answer : ℤ)
    : Type 0 where
  -- the records of the tiles are at the front of the list
  done : answer ≡ pos 0 → tile ≡ tile_before → IsBoxOf plan part → length (tiles_of plan part) ≤ length before
      → AreListed (image_there plan) from rows (tiles_of plan part) before reads
      → ListsReads plan part from rows before reads tile_before tile answer
  -- this is the first tile whose row gives no record
  stopped : (stop : Stopped) → answer ≡ answer_of (fault_for_tile stop.why) → tile ≡ stop.tile → IsBoxOf plan part
      → length (tiles_of plan part) ≤ length before → RowsStop (image_there plan) from rows (tiles_of plan part) stop
      → ListsReads plan part from rows before reads tile_before tile answer
  -- there is no such plan, or no such box
  none : (fault : Fault) → answer ≡ answer_of fault → tile ≡ tile_before → IsNoBox plan part fault
      → ListsReads plan part from rows before reads tile_before tile answer
  -- the list is too short
  no_room : answer ≡ answer_of NoRoom → tile ≡ tile_before → IsBoxOf plan part → length before < length (tiles_of plan part)
      → ListsReads plan part from rows before reads tile_before tile answer

-- there are the places of the largest tile and those of the box
pub record HasRoomForBox (plan : FzPlan) (part : FzBox) (count room : ℕ) : Type 0 where
  pub places_there : places_of (plan_there plan) 0 ≤ count
  pub room_there : numbers_in (plan_there plan) (sieve_there part) ≤ room

-- the answer of `fz_box`
pub data CutsBox (plan : FzPlan) (part : FzBox) (from : ℕ) (rows : List ℕ) (at : ℕ) (codes : List ℕ) (count : ℕ) (before out : List ℤ)
    (tile_before tile : ℕ) (answer : ℤ) : Type 0 where
  -- the pixels of the box are at the front of `out`
  done : answer ≡ pos 0 → tile ≡ tile_before → IsBoxOf plan part → HasRoomForBox plan part count (length before)
      → HasBox (image_there plan) (sieve_there part) from rows at codes before out
      → CutsBox plan part from rows at codes count before out tile_before tile answer
  -- this is the first tile that gives no pixels
  stopped : (stop : Stopped) → answer ≡ answer_of (fault_for_tile stop.why) → tile ≡ stop.tile → IsBoxOf plan part
      → HasRoomForBox plan part count (length before) → TilesStop (image_there plan) from rows at codes (tiles_of plan part) stop
      → CutsBox plan part from rows at codes count before out tile_before tile answer
  -- there is no such plan, or no such box
  none : (fault : Fault) → answer ≡ answer_of fault → tile ≡ tile_before → IsNoBox plan part fault
      → CutsBox plan part from rows at codes count before out tile_before tile answer
  -- there are fewer places than the largest tile needs
  few_places : answer ≡ answer_of FewPlaces → tile ≡ tile_before → IsBoxOf plan part → count < places_of (plan_there plan) 0
      → CutsBox plan part from rows at codes count before out tile_before tile answer
  -- `out` is too short
  no_room : answer ≡ answer_of NoRoom → tile ≡ tile_before → IsBoxOf plan part → places_of (plan_there plan) 0 ≤ count
      → length before < numbers_in (plan_there plan) (sieve_there part)
      → CutsBox plan part from rows at codes count before out tile_before tile answer
