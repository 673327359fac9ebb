use Rattle.std.proofs.Common.{unsigned_abs}
use Rattle.fz_tile.proofs.PartLemmas.{rice_can, first_of_codec}
use Rattle.fz_tile.proofs.part.first_part_mark.Goals as goal

pub returns-in-Rice : goal.returns-in-Rice
returns-in-Rice c =
    let can = rice_can c.args.codec c.args.bitpix c.in-Rice.block c.in-Rice.bytepix c.in-Rice.is c.requires.codec in
    first_of_codec c.marks_law.ensures.start c.args.codec c.in-Rice.block c.in-Rice.bytepix (unsigned_abs c.args.bitpix) c.args.code.now c.first_mark.result c.in-Rice.is can.1 can.0.0 c.first_mark.ensures
