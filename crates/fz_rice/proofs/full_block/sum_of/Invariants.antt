use Rattle.std.proofs.Common.{◌≡◌, ◌*◌, ◌^◌, ◌≤◌, take, sum}
use Rattle.fz_rice.proofs.full_block.sum_of.Given as goal

abbrev pub invariant-loop-value : goal.invariant-loop-value
invariant-loop-value l = record {
  sum : l.sum ≡ sum (take l.value-index l.values);
  few : l.sum ≤ l.value-index * 2 ^ 32;
}
