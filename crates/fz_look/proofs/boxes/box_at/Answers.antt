-- Whole tiles have room if one has.
use Rattle.fz_look.proofs.BoxParts.{tile_fits}
use Rattle.fz_look.proofs.boxes.box_at.Goals as goal

pub tiles_at-requires-clause-fits : goal.tiles_at-requires-clause-fits
tiles_at-requires-clause-fits c =
    tile_fits c.args.plan.now.shape c.new_tile-tile.result c.volume.result c.args.most c.requires.divided.pixels c.new_tile-tile.ensures.tile c.volume.ensures c.if-volume-most.true
