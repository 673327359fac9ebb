use Rattle.std.proofs.Common.{◌≡◌, ◌*◌, ◌^◌, ◌<◌, ◌≤◌, take, sum}
use Rattle.fz_rice.specs.Code.{differences}
use Rattle.fz_rice.proofs.WritesLemmas.{last_residue}
use Rattle.fz_rice.proofs.encode.total.Given as goal

abbrev pub invariant-loop-number : goal.invariant-loop-number
invariant-loop-number g l = record {
  sum : l.sum ≡ sum (differences g.row.W l.start (take l.number-index l.numbers));
  few : l.sum ≤ l.number-index * 2 ^ 32;
  last : l.last ≡ last_residue g.row.W l.start (take l.number-index l.numbers);
  below : l.last < 2 ^ g.row.W;
}
