use Rattle.fz_head.proofs.PlannedTiles.{axes-few}
use Rattle.fz_head.proofs.packable.is_packable.Goals as goal

pub has_places-requires : goal.has_places-requires
has_places-requires c = axes-few c.args.buf.now c.args.header.now c.requires.header
