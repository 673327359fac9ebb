use Rattle.std.proofs.Common.{◌∙◌, codes}
use Rattle.fz_card.specs.Layout.{padded}
use Rattle.fz_card.specs.CardLists.{has_name}
use Rattle.fz_block.specs.Hdus.{cards_of}
use Rattle.fz_checks.proofs.PackedAnswers.{index-is-found}
use Rattle.fz_checks.proofs.unpacking.was_primary.Goals as goal

pub returns : goal.returns
returns c = c.stands.ensures ∙ index-is-found (has_name (padded (codes "ZSIMPLE"))) (cards_of c.args.buf.now)
