use Rattle.std.proofs.Common.{arith}
use Rattle.fz_card.proofs.Blanks.{drop-blanks, take-blanks, length-front}
use Rattle.fz_card.proofs.line.Line.push_blanks.Goals as goal

pub invariant_of-self : goal.invariant_of-self
invariant_of-self g c =
    let i = c.self.inside in
    let long = length-front g.row.N i.len i.bytes c.args.self.now c.self.view_is c.self.told c.self.invariant.0 in
    (omega (arith, long), drop-blanks g.row.N i.len c.args.count i.bytes c.self.invariant.1)

pub returns : goal.returns
returns g c =
    let i = c.self.inside in
    let long = length-front g.row.N i.len i.bytes c.args.self.now c.self.view_is c.self.told c.self.invariant.0 in
    take-blanks g.row.N i.len c.args.count i.bytes c.args.self.now c.self.view_is (omega (arith, long)) c.self.invariant.1
