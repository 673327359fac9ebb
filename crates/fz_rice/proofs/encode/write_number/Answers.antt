use Rattle.std.proofs.Common.{refl}
use Rattle.fz_bits.specs.Bits.{number_bits}
use Rattle.fz_rice.proofs.WritesLemmas.{writes_of}
use Rattle.fz_rice.proofs.encode.write_number.Goals as goal

pub returns : goal.returns
returns c =
    let bits = number_bits c.args.width c.args.number in
    let put = c.put.ensures in
    writes_of c.put.result bits bits c.args.width c.args.writer.now c.put.new.self put.same put.room put.ok put.full refl (c.number_law.ensures.many c.args.width c.args.number)
