use Rattle.std.proofs.Common.{sym, ap, ◌∙◌, arith}
use Rattle.std.specs.Prelude.{position}
use Rattle.fz_head.specs.PackedChecks.{is_scaling}
use Rattle.fz_checks.proofs.FrontCards.{header-cards, header-end}
use Rattle.fz_checks.proofs.packed_codec.scaling_card.Goals as goal

pub first_scaling-requires : goal.first_scaling-requires
first_scaling-requires c = let end = (header-end c.args.buf.now c.args.header.now c.requires).within in omega arith

pub returns : goal.returns
returns c = c.first_scaling.ensures ∙ ap (position (is_scaling c.args.columns)) (sym (header-cards c.args.buf.now c.args.header.now c.requires))
