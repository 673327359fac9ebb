-- Pixel by pixel.
use Rattle.fz_laws.specs.PatchTaken.{PlaceLaws}
use Rattle.fz_laws.proofs.NewBoxes.{others_keep_numbers}
use Rattle.fz_laws.proofs.NewGiven.{given_are}
use Rattle.fz_laws.proofs.NewStay.{stay_same}
use Rattle.fz_laws.proofs.NewTarget.{targets_are_given}
use Rattle.fz_laws.proofs.NewTiles.{tiles_are_replaced}
use Rattle.fz_laws.proofs.patched.new_numbers_law.Goals as goal

pub returns : goal.returns
returns c =
    let laws : PlaceLaws = record {
      inside = c.place_law.ensures.inside;
      coordinates = c.place_law.ensures.coordinates;
      numbers = c.place_law.ensures.numbers;
      order = c.place_law.ensures.order;
    } in
    record {
      target = targets_are_given c.hdu_at_law.ensures.facts c.plain_law.ensures.stored;
      tiles = tiles_are_replaced laws;
      others = others_keep_numbers laws c.cutout_law.ensures.some;
      given = given_are laws c.tiles_law.ensures.whole c.tiles_law.ensures.joined c.cutout_law.ensures.numbers;
      stay = stay_same laws;
    }
