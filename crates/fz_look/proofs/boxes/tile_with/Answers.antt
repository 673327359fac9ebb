-- The tile begins at the last multiple of its length.
use Rattle.std.proofs.Common.{arith}
use Rattle.fz_look.proofs.BoxParts.{tile_from, tile_to}
use Rattle.fz_look.proofs.boxes.tile_with.Goals as goal

pub overflow_mul-lo : goal.overflow_mul-lo
overflow_mul-lo c = omega (arith, tile_from c.args.at c.args.tile, c.ranges.at)

pub overflow_sub-end : goal.overflow_sub-end
overflow_sub-end c = omega (arith, tile_from c.args.at c.args.tile, c.requires.inside)

pub returns-clause-tile : goal.returns-clause-tile
returns-clause-tile c =
    let from = tile_from c.args.at c.args.tile in
    let to = tile_to c.args.at c.args.tile c.requires.some in
    record {
      some = omega (arith, from, to, c.requires.inside, c.requires.some, c.min.ensures);
      inside = omega (arith, from, c.requires.inside, c.min.ensures);
      from = from;
      to = omega (arith, from, to, c.requires.inside, c.min.ensures);
    }
