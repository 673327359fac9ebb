-- The heap with the new codes is counted in 64 bits.
use Rattle.std.proofs.Common.{arith}
use Rattle.fz_target.proofs.CodedEnds.{heap_few}
use Rattle.fz_target.proofs.measure.has_room.Goals as goal

pub overflow_add-heap : goal.overflow_add-heap
overflow_add-heap c = record { fits = omega (arith, c.requires.more, heap_few c.args.target.now c.requires.target) }
