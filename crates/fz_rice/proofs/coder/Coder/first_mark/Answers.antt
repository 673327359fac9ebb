use Rattle.std.proofs.Common.{◌≡◌, ◌+◌, Bool, List, length, Ok, subst, ap, arith}
use Rattle.fz_bits.specs.Bits.{bits_of}
use Rattle.fz_bits.specs.Reader.{left}
use Rattle.fz_rice.specs.Reading.{number_at}
use Rattle.fz_rice.proofs.MarkLemmas.{first_is_mark}
use Rattle.fz_rice.proofs.coder.Coder.first_mark.Goals as goal

pub returns-clause-mark : goal.returns-clause-mark
returns-clause-mark g c =
    let w = g.row.W in
    let bits = bits_of c.args.code.now in
    let rest = left c.read_number.new.reader in
    let one : number_at w bits ≡ Ok (c.in_ok-last.last, rest) = subst (λ (x : List Bool). number_at w x ≡ Ok (c.in_ok-last.last, rest)) c.new-reader.ensures.left c.in_ok-last.ensures.number in
    let counted : c.place.result + length rest ≡ length bits = omega (arith, c.place.ensures, c.in_ok-last.ensures.count, c.new-reader.ensures.place, ap length c.new-reader.ensures.left) in
    λ block. first_is_mark c.number_law.ensures w block bits rest _ one counted
