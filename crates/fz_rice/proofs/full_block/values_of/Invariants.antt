use Rattle.std.proofs.Common.{◌≡◌, length, take}
use Rattle.fz_rice.specs.Code.{differences}
use Rattle.fz_rice.proofs.full_block.values_of.Given as goal

abbrev pub invariant-loop-i : goal.invariant-loop-i
invariant-loop-i g l = record {
  len : length l.values ≡ 32;
  so_far : take l.i l.values ≡ differences g.row.W l.last (take l.i l.numbers);
}
