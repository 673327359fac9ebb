-- The slot with the code of a tile: how long the code is (FITS 4.0, section 10.1.3).
use Rattle.std.proofs.Common.{subst}
use Rattle.fz_tile.specs.TileCode.{TileCode}
use Rattle.fz_pool.specs.Window.{Pool}
use Rattle.fz_pool.specs.declared.slot.Slot.{Slot}
use Rattle.fz_target.specs.Tiles.{HasCode, HasFirst, IsFirstOf}

-- what slot 0 has, this slot has
pub first_has : (w : Pool) (x : Slot) (code : TileCode) → IsFirstOf w x → HasFirst (HasCode code) w → HasCode code x
first_has w x code first has = subst (HasCode code) (first x) (has x)
