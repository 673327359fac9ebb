use Rattle.std.proofs.Common.{◌+◌, ◌-◌, length, arith, ◌∙◌}
use Rattle.std.proofs.lemmas.Slice.{drop-put_mid}
use Rattle.fz_card.proofs.Blanks.{drop-blanks, length-front}
use Rattle.fz_card.proofs.line.Line.push.Goals as goal

pub invariant_of-self : goal.invariant_of-self
invariant_of-self g c =
    let i = c.self.inside in
    let text = c.args.text.now in
    let long = length-front g.row.N i.len i.bytes c.args.self.now c.self.view_is c.self.told c.self.invariant.0 in
    (omega (arith, long), drop-put_mid i.len (i.len + length text - i.len) i.bytes c.copy_from_slice.new.self (i.len + length text) (omega arith) (omega (arith, c.self.told, c.self.invariant.0)) (omega (arith, c.copy_from_slice.ensures.len)) ∙ drop-blanks g.row.N i.len (length text) i.bytes c.self.invariant.1)
