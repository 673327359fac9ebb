use Rattle.std.proofs.Common.{◌-◌, arith}
use Rattle.fz_rice.proofs.SeveralLemmas.{piece_is}
use Rattle.fz_rice.proofs.several.next_piece.Goals as goal

pub returns-clause-is : goal.returns-clause-is
returns-clause-is c =
    let s = c.args.shape in
    piece_is c.number_law.ensures (s.tail - 1) s.tail c.args.word s.one c.rotate_left-turned.result c.from.result (omega (arith, s.some)) s.one_is (omega arith) c.rotate_left-turned.ensures c.from.ensures
