use Rattle.std.proofs.Common.{sym, ap, ◌∙◌, arith}
use Rattle.fz_head.specs.PackedPlan.{parameter_number}
use Rattle.fz_checks.proofs.FrontCards.{header-cards, header-end}
use Rattle.fz_checks.proofs.packed_rice.parameter_number.Goals as goal

pub least_number-requires : goal.least_number-requires
least_number-requires c = let end = (header-end c.args.buf.now c.args.header.now c.requires).within in omega arith

pub returns-clause-number : goal.returns-clause-number
returns-clause-number c = c.least_number.ensures.number ∙ ap (parameter_number c.args.text.now) (sym (header-cards c.args.buf.now c.args.header.now c.requires))
