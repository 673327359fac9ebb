use Rattle.std.proofs.Common.{take, Ok}
use Rattle.std.specs.List.{flat_map}
use Rattle.fz_rice.specs.Code.{split_bits}
use Rattle.fz_rice.specs.Writing.{Writes}
use Rattle.fz_rice.proofs.full_block.write_values.Given as goal

abbrev pub invariant-loop-value : goal.invariant-loop-value
invariant-loop-value l = Writes {A = Unit {0}} (Ok tt) (flat_map (split_bits l.k) (take l.value-index l.values)) l.fn.writer l.writer
