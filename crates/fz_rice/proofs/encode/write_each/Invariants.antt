use Rattle.std.proofs.Common.{◌≡◌, ◌^◌, ◌<◌, take, Ok}
use Rattle.std.specs.List.{flat_map}
use Rattle.fz_rice.specs.Code.{differences, split_bits}
use Rattle.fz_rice.specs.Writing.{Writes}
use Rattle.fz_rice.proofs.WritesLemmas.{last_residue}
use Rattle.fz_rice.proofs.encode.write_each.Given as goal

abbrev pub invariant-loop-number : goal.invariant-loop-number
invariant-loop-number g l = record {
  half : Writes {A = Unit {0}} (Ok tt) (flat_map (split_bits l.k) (differences g.row.W l.start (take l.number-index l.numbers))) l.fn.writer l.writer;
  last : l.last ≡ last_residue g.row.W l.start (take l.number-index l.numbers);
  below : l.last < 2 ^ g.row.W;
}
