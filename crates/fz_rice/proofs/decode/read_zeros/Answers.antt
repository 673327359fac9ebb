use Rattle.std.proofs.Common.{Err, ap}
use Rattle.fz_bits.specs.Reader.{left, place}
use Rattle.fz_rice.proofs.LeafLemmas.{zeros_read, zeros_counted, too_many, zeros_end}
use Rattle.fz_rice.proofs.decode.read_zeros.Goals as goal

pub returns-in-Ok-clause-zeros : goal.returns-in-Ok-clause-zeros
returns-in-Ok-clause-zeros c =
    zeros_read c.args.max c.in-Ok.zeros (left c.args.reader.now) (left c.zeros.new.self) c.in-Ok.ensures.bits c.in-Ok.ensures.most

pub returns-in-Ok-clause-count : goal.returns-in-Ok-clause-count
returns-in-Ok-clause-count c =
    zeros_counted (place c.zeros.new.self) (place c.args.reader.now) c.in-Ok.zeros (left c.args.reader.now) (left c.zeros.new.self) c.in-Ok.ensures.bits c.in-Ok.ensures.place

pub returns-in-Err-TooMany-clause-zeros : goal.returns-in-Err-TooMany-clause-zeros
returns-in-Err-TooMany-clause-zeros c =
    too_many c.args.max (left c.args.reader.now) (c.in-Err-TooMany.ensures.too_many.0 (ap Err c.in-Err-TooMany.field-0-is))

pub returns-in-Err-Ended-clause-zeros : goal.returns-in-Err-Ended-clause-zeros
returns-in-Err-Ended-clause-zeros c =
    zeros_end c.args.max (left c.args.reader.now) (c.in-Err-Ended.ensures.ended.0 (ap Err c.in-Err-Ended.field-0-is))
