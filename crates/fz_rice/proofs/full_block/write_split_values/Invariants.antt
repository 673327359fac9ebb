use Rattle.std.proofs.Common.{◌*◌, take, Ok}
use Rattle.std.specs.List.{flat_map}
use Rattle.fz_rice.specs.Code.{split_bits}
use Rattle.fz_rice.specs.Writing.{Writes}
use Rattle.fz_rice.proofs.full_block.write_split_values.Given as goal

abbrev pub invariant-loop-q : goal.invariant-loop-q
invariant-loop-q l = Writes {A = Unit {0}} (Ok tt) (flat_map (split_bits l.k) (take (4 * l.q) l.values)) l.fn.writer l.writer
