-- What the answers of the calls of a row and of a tile of a packed image say (FITS 4.0, sections 7.3.5 and 10.1.3). Each test comes
-- after those before it, so that one answer has one cause.
use Rattle.std.specs.Prelude.{ℕ, ◌≡◌, ◌<◌, ◌≤◌, ℤ, pos, List, length, take, Some, None, Ok, Err}
use Rattle.fz_base.specs.declared.fault.Fault.{Fault as FaultOf}
use Rattle.fz_table.specs.declared.record.Record.{Record}
use Rattle.fz_tile.specs.declared.fault.TileFault.{TileFault}
use Rattle.fz_head.specs.declared.plan.Plan.{Plan}
use Rattle.fz_flat.specs.declared.plan.FzPlan.{FzPlan}
use Rattle.fz_flat.specs.declared.record.FzRecord.{FzRecord}
use Rattle.fz_flat.specs.Lawful.{IsLawful, IsTileOf}
use Rattle.fz_flat.specs.Plans.{image_there}
use Rattle.fz_flat.specs.Rows.{TileIsFaulty, TileMeans, flat_record, read_of, record_there, row_says}
use Rattle.fz_flat.specs.Tiles.{places_of, tiles_in}
use Rattle.fz_c.specs.declared.fault.Fault.TheVariants.{FewBytes, FewPlaces, NoColumn, NoPlan, NoTile, Refused, Rejected}
use Rattle.fz_c.specs.Faults.{answer_of}

-- the answer of `fz_row`
pub data SaysRow (plan : FzPlan) (tile : ℕ) (row : List ℕ) (record_is : FzRecord) (answer : ℤ) : Type 0 where
  -- this is the record that the row says
  done : answer ≡ pos 0 → IsTileOf plan tile → plan.row_bytes ≤ length row → (found : Record)
      → row_says 0 (image_there plan) row tile ≡ Ok found → record_is ≡ flat_record found → SaysRow plan tile row record_is answer
  -- the row is refused
  refused : (x : FaultOf) → answer ≡ answer_of (Rejected x.kind) → IsTileOf plan tile → plan.row_bytes ≤ length row
      → row_says 0 (image_there plan) row tile ≡ Err x → SaysRow plan tile row record_is answer
  -- no packed image has this plan
  no_plan : answer ≡ answer_of NoPlan → ¬ IsLawful plan → SaysRow plan tile row record_is answer
  -- its image has no such tile
  no_tile : answer ≡ answer_of NoTile → IsLawful plan → ¬ (tile < tiles_in (image_there plan).plan)
      → SaysRow plan tile row record_is answer
  -- the row has more bytes
  few_bytes : answer ≡ answer_of FewBytes → IsTileOf plan tile → length row < plan.row_bytes
      → SaysRow plan tile row record_is answer

-- the plan of the image
abbrev pub plan_there : FzPlan → Plan
plan_there plan = (image_there plan).plan

-- what is read of the record of a tile
abbrev pub bytes_read : FzPlan → ℕ → Record → List ℕ → List ℕ
bytes_read plan tile found code = take (read_of (plan_there plan) tile found) code

-- the bytes and the numbers are as many as the tile asks for
pub record HasRoomFor (plan : FzPlan) (tile : ℕ) (found : Record) (code : List ℕ) (count : ℕ) : Type 0 where
  pub code_there : read_of (plan_there plan) tile found ≤ length code
  pub places_there : places_of (plan_there plan) tile ≤ count

-- the answer of `fz_tile`
pub data ReadsTile (plan : FzPlan) (tile : ℕ) (record_is : FzRecord) (code : List ℕ) (before numbers : List ℤ) (answer : ℤ)
    : Type 0 where
  -- the record stands for the pixels that the first numbers hold
  done : answer ≡ pos 0 → IsTileOf plan tile → (found : Record) → record_there record_is ≡ Some found
      → HasRoomFor plan tile found code (length before)
      → TileMeans (plan_there plan) tile found (bytes_read plan tile found code) before numbers
      → ReadsTile plan tile record_is code before numbers answer
  -- it stands for no so many pixels
  refused : (why : TileFault) → answer ≡ answer_of (Refused why) → IsTileOf plan tile → (found : Record)
      → record_there record_is ≡ Some found → HasRoomFor plan tile found code (length before)
      → TileIsFaulty (plan_there plan) tile found (bytes_read plan tile found code) why
      → ReadsTile plan tile record_is code before numbers answer
  -- no packed image has this plan
  no_plan : answer ≡ answer_of NoPlan → ¬ IsLawful plan → ReadsTile plan tile record_is code before numbers answer
  -- its image has no such tile
  no_tile : answer ≡ answer_of NoTile → IsLawful plan → ¬ (tile < tiles_in (plan_there plan))
      → ReadsTile plan tile record_is code before numbers answer
  -- the record is in no such column
  no_column : answer ≡ answer_of NoColumn → IsTileOf plan tile → record_there record_is ≡ None
      → ReadsTile plan tile record_is code before numbers answer
  -- some bytes of what is read are missing
  few_bytes : answer ≡ answer_of FewBytes → IsTileOf plan tile → (found : Record) → record_there record_is ≡ Some found
      → length code < read_of (plan_there plan) tile found → ReadsTile plan tile record_is code before numbers answer
  -- there are fewer places than the tile needs
  few_places : answer ≡ answer_of FewPlaces → IsTileOf plan tile → (found : Record) → record_there record_is ≡ Some found
      → read_of (plan_there plan) tile found ≤ length code → length before < places_of (plan_there plan) tile
      → ReadsTile plan tile record_is code before numbers answer
