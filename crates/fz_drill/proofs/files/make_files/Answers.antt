use Rattle.std.proofs.Common.{◌∙◌}
use Rattle.fz_drill.proofs.PlainFile.{image_is}
use Rattle.fz_drill.proofs.files.make_files.Goals as goal

pub invariant_of-result : goal.invariant_of-result
invariant_of-result c = record { few = c.requires; plain_is = c.in_ok-plain.ensures ∙ image_is c.args.rows; part_is = c.in_ok-part.ensures }
