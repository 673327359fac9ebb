-- The image is the one that the header says.
use Rattle.std.proofs.Common.{take, ◌*◌}
use Rattle.fz_flat.proofs.fronts.image_at_front.Goals as goal

pub returns-in-Ok-image_to_amend-clause-packed : goal.returns-in-Ok-image_to_amend-clause-packed
returns-in-Ok-image_to_amend-clause-packed c =
    c.packed_law.ensures (take (2880 * c.in_ok-blocks.blocks) c.args.front.now) c.in-Ok.facts c.in-Ok-image_to_amend.image c.in-Ok-image_to_amend.ensures.image c.in-Ok-image_to_amend.ensures.table
