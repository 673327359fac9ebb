use Rattle.std.proofs.Common.{◌∙◌}
use Rattle.std.specs.Int.{w32}
use Rattle.std.proofs.lemmas.Int.{to_z-of_z}
use Rattle.fz_block.specs.Hdus.{cards_of}
use Rattle.fz_checks.proofs.SaidPlans.{same-plan}
use Rattle.fz_checks.proofs.unpacking.said_plan.Goals as goal

pub returns-clause-exact : goal.returns-clause-exact
returns-clause-exact c =
    let bitpix = to_z-of_z w32 c.args.bitpix c.ranges.bitpix ∙ c.requires.bitpix in
    same-plan (cards_of c.args.buf.now) _ c.requires.codec bitpix c.requires.shape c.requires.tile c.was_primary.ensures c.is_wide.ensures
