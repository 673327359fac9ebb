use Rattle.std.proofs.Common.{◌≡◌, ◌≤◌, map, take, Some, vec_len, vec_capacity}
use Rattle.fz_pool.specs.Calls.{AreSameFrom}
use Rattle.fz_pool.proofs.moving.move_out.Given as goal

abbrev pub invariant-loop-i : goal.invariant-loop-i
invariant-loop-i l = (l.out.items ≡ map Some (take l.i l.fn.slots)) × (vec_len l.out ≡ l.i) × (l.fn.count ≤ vec_capacity l.out) × AreSameFrom l.i l.fn.slots l.slots
