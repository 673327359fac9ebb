use Rattle.std.proofs.Common.{◌≡◌, ◌-◌, ◌^◌, ◌<◌, ◌≤◌, length, take, Ok}
use Rattle.std.specs.List.{flat_map}
use Rattle.fz_rice.specs.Code.{differences, split_bits}
use Rattle.fz_rice.specs.Writing.{Writes}
use Rattle.fz_rice.proofs.WritesLemmas.{last_residue}
use Rattle.fz_rice.proofs.encode.write_split.Given as goal

abbrev pub invariant-loop-at : goal.invariant-loop-at
invariant-loop-at g l = record {
  half : Writes {A = Unit {0}} (Ok tt) (flat_map (split_bits l.k) (differences g.row.W l.start (take l.at l.numbers))) l.fn.writer l.writer;
  last : l.last ≡ last_residue g.row.W l.start (take l.at l.numbers);
  within : l.at ≤ length l.numbers;
  below : l.last < 2 ^ g.row.W;
}

abbrev pub decreases-loop-at : goal.decreases-loop-at
decreases-loop-at g l = length l.numbers - l.at
