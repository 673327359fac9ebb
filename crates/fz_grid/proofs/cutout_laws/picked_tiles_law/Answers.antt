use Rattle.fz_grid.proofs.BoxLists.{PlaceLaws}
use Rattle.fz_grid.proofs.PickedLemmas.{one_cutout, pick_tile}
use Rattle.fz_grid.proofs.cutout_laws.picked_tiles_law.Goals as goal

laws : goal.After-one_tile_law → PlaceLaws
laws c =
    record {
      inside = c.place_law.ensures.inside;
      coordinates = c.place_law.ensures.coordinates;
      numbers = c.place_law.ensures.numbers;
      order = c.place_law.ensures.order;
    }

pub returns-clause-picks : goal.returns-clause-picks
returns-clause-picks c = pick_tile (laws c) c.one_tile_law.ensures.coordinates

pub returns-clause-same : goal.returns-clause-same
returns-clause-same c = one_cutout (laws c) c.one_tile_law.ensures.coordinates
