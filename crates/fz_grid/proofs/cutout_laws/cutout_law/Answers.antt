use Rattle.fz_grid.proofs.BoxLists.{PlaceLaws}
use Rattle.fz_grid.proofs.CutoutLemmas.{cutout_whole, parts_make, picked_once, some_pick, tiles_give, tiles_make}
use Rattle.fz_grid.proofs.PlaceBounds.{part_inside, picks_room}
use Rattle.fz_grid.proofs.cutout_laws.cutout_law.Goals as goal

laws : goal.After-tiles_law → PlaceLaws
laws c =
    record {
      inside = c.place_law.ensures.inside;
      coordinates = c.place_law.ensures.coordinates;
      numbers = c.place_law.ensures.numbers;
      order = c.place_law.ensures.order;
    }

pub returns-clause-count : goal.returns-clause-count
returns-clause-count c = cutout_whole (laws c)

pub returns-clause-numbers : goal.returns-clause-numbers
returns-clause-numbers c = tiles_give (laws c)

pub returns-clause-inside : goal.returns-clause-inside
returns-clause-inside c = part_inside (laws c)

pub returns-clause-room : goal.returns-clause-room
returns-clause-room c = picks_room (laws c)

pub returns-clause-once : goal.returns-clause-once
returns-clause-once c = picked_once (laws c) c.one_tile_law.ensures.coordinates

pub returns-clause-cutout : goal.returns-clause-cutout
returns-clause-cutout c = parts_make (laws c) c.one_tile_law.ensures.coordinates

pub returns-clause-image : goal.returns-clause-image
returns-clause-image c = tiles_make c.tiles_law.ensures.places c.tiles_law.ensures.same

pub returns-clause-some : goal.returns-clause-some
returns-clause-some c = some_pick (laws c)
