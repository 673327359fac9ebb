use Rattle.std.proofs.Common.{Some, sym, ap, ◌∙◌}
use Rattle.fz_checks.proofs.SaidCards.{missing-found}
use Rattle.fz_checks.proofs.said.require.Goals as goal

pub returns-in-None : goal.returns-in-None
returns-in-None c =
    missing-found c.args.header.now.hdu c.args.buf.now c.args.name.now.bytes c.args.header.now c.requires (sym c.in-None.is ∙ c.find.ensures.index) ∙ ap Some (sym c.refused.ensures)
