use Rattle.fz_card.proofs.Blanks.{line-filled}
use Rattle.fz_card.proofs.line.Line.bytes.Goals as goal

pub returns : goal.returns
returns g c =
    let i = c.self.inside in
    line-filled g.row.N i.len i.bytes c.args.self.now c.self.view_is c.self.told c.self.invariant.0 c.self.invariant.1
