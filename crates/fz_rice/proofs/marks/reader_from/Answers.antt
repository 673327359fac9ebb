use Rattle.std.proofs.Common.{◌≡◌, length, drop, length-drop, ap, arith}
use Rattle.fz_bits.specs.Bits.{bits_of}
use Rattle.fz_bits.specs.Reader.{left}
use Rattle.fz_rice.proofs.MarkLemmas.{passed}
use Rattle.fz_rice.proofs.marks.reader_from.Goals as goal

pub returns-clause-left : goal.returns-clause-left
returns-clause-left c =
    passed c.number_law.ensures c.args.bit c.in-Ok.field-0 c.args.code.now (left c.new-reader.result) (left c.get.new.self) c.new-reader.ensures.left c.in-Ok.ensures.bits

pub returns-clause-count : goal.returns-clause-count
returns-clause-count c =
    let bits = bits_of c.args.code.now in
    let rest : left c.get.new.self ≡ drop c.args.bit bits = passed c.number_law.ensures c.args.bit c.in-Ok.field-0 c.args.code.now (left c.new-reader.result) (left c.get.new.self) c.new-reader.ensures.left c.in-Ok.ensures.bits in
    omega (arith, c.in-Ok.ensures.place, c.new-reader.ensures.place, ap length rest, length-drop c.args.bit bits, c.bytes_law.ensures.eight c.args.code.now, c.requires.within)
