use Rattle.fz_bits.specs.Bits.{number_bits}
use Rattle.fz_bits.specs.Reader.{left, place}
use Rattle.fz_rice.proofs.LeafLemmas.{number_read, count_kept}
use Rattle.fz_rice.proofs.decode.read_number.Goals as goal

pub returns-in-Ok-clause-number : goal.returns-in-Ok-clause-number
returns-in-Ok-clause-number c =
    number_read c.number_law.ensures c.args.width c.in-Ok.number (left c.args.reader.now) (left c.get.new.self) c.in-Ok.ensures.bits c.in-Ok.ensures.fits

pub returns-in-Ok-clause-count : goal.returns-in-Ok-clause-count
returns-in-Ok-clause-count c =
    count_kept (place c.get.new.self) (place c.args.reader.now) c.args.width (number_bits c.args.width c.in-Ok.number) (left c.args.reader.now) (left c.get.new.self) c.in-Ok.ensures.bits (c.number_law.ensures.many c.args.width c.in-Ok.number) c.in-Ok.ensures.place
