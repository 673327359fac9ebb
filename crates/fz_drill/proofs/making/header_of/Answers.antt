use Rattle.std.proofs.Common.{◌∙◌}
use Rattle.fz_drill.proofs.MadeFiles.{made_header}
use Rattle.fz_drill.proofs.making.header_of.Goals as goal

pub returns : goal.returns
returns c =
    c.bytes.ensures
    ∙ made_header c.args.columns c.args.rows c.new-header.ensures c.push.ensures c.push-2.ensures c.push-3.ensures c.push-4.ensures c.push-5.ensures c.push-6.ensures c.logical_card.ensures c.int_card.ensures
    c.int_card-2.ensures c.axis_card.ensures.card c.axis_card-2.ensures.card
