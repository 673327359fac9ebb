use Rattle.std.proofs.Common.{sym, ap, ◌∙◌, arith}
use Rattle.std.specs.Prelude.{position}
use Rattle.fz_head.specs.PackChecks.{is_offset}
use Rattle.fz_checks.proofs.FrontCards.{header-cards, header-end}
use Rattle.fz_checks.proofs.unpacking.offset_card.Goals as goal

pub first_offset-requires : goal.first_offset-requires
first_offset-requires c = let end = (header-end c.args.buf.now c.args.header.now c.requires).within in omega arith

pub returns : goal.returns
returns c = c.first_offset.ensures ∙ ap (position is_offset) (sym (header-cards c.args.buf.now c.args.header.now c.requires))
