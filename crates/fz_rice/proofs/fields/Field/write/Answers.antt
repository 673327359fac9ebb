use Rattle.std.proofs.Common.{refl}
use Rattle.fz_bits.specs.Bits.{number_bits}
use Rattle.fz_rice.proofs.WritesLemmas.{writes_of}
use Rattle.fz_rice.proofs.fields.Field.write.Goals as goal

pub returns : goal.returns
returns c =
    let width = c.args.self.width in
    let bits = number_bits width c.args.self.bits in
    let put = c.put_long.ensures in
    writes_of c.put_long.result bits bits width c.args.writer.now c.put_long.new.self put.same put.room put.ok put.full refl (c.number_law.ensures.many width c.args.self.bits)
