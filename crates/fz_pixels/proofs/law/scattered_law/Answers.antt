use Rattle.fz_pixels.proofs.Covering.{WriteLaws}
use Rattle.fz_pixels.proofs.ScatteredRounds.{part_rounds_joined, rounds_joined}
use Rattle.fz_pixels.proofs.Wholes.{cutout_whole, image_whole}
use Rattle.fz_pixels.proofs.law.scattered_law.Goals as goal

writes : goal.After-slice_law → WriteLaws
writes c = record { inside = c.places_law.ensures.inside; outside = c.places_law.ensures.outside; long = c.places_law.ensures.long }

pub returns-clause-rounds : goal.returns-clause-rounds
returns-clause-rounds c = rounds_joined

pub returns-clause-parts : goal.returns-clause-parts
returns-clause-parts c = part_rounds_joined

pub returns-clause-image : goal.returns-clause-image
returns-clause-image c p at pixels contents divided size tiles =
    image_whole c.tiles_law.ensures.inside (writes c) c.tiles_law.ensures.places c.tiles_law.ensures.whole c.tiles_law.ensures.joined c.plain_law.ensures.len c.slice_law.ensures.bytes
    p pixels (c.shape_law.ensures.tiles p.shape p.tile divided) size tiles c.one_tile_law.ensures.numbers at contents

pub returns-clause-cutout : goal.returns-clause-cutout
returns-clause-cutout c p sieve at a contents divided size sifts is_array same =
    cutout_whole c.cutout_law.ensures.inside c.place_law.ensures.pixels (writes c) c.cutout_law.ensures.count c.cutout_law.ensures.numbers c.plain_law.ensures.len c.slice_law.ensures.bytes
    p sieve a (c.shape_law.ensures.tiles p.shape p.tile divided) size sifts same c.cutout_law.ensures.once at contents
