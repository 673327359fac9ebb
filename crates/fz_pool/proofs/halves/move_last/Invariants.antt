-- The slots that are left, and those that moved, last first, are all.
use Rattle.std.proofs.Common.{◌≡◌, ◌+◌, ◌++◌, reverse, vec_len, vec_capacity}
use Rattle.fz_pool.proofs.halves.move_last.Given as goal

abbrev pub invariant-loop-i : goal.invariant-loop-i
invariant-loop-i l = record {
  all : l.from.items ++ reverse l.to.items ≡ l.fn.from.items;
  moved : vec_len l.to ≡ l._i;
  left : vec_len l.from + l._i ≡ vec_len l.fn.from;
  from_capacity : vec_capacity l.from ≡ vec_capacity l.fn.from;
  to_capacity : vec_capacity l.to ≡ vec_capacity l.fn.to;
}
