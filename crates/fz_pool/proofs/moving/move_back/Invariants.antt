use Rattle.std.proofs.Common.{◌≡◌, ◌≤◌, map, take, length, Some, vec_len}
use Rattle.fz_pool.specs.Calls.{AreSameFrom}
use Rattle.fz_pool.proofs.moving.move_back.Given as goal

abbrev pub invariant-loop-slot : goal.invariant-loop-slot
invariant-loop-slot l = (vec_len l.out ≤ length l.slots) × (l.out.items ≡ map Some (take (vec_len l.out) l.key.slots.value.items)) × AreSameFrom (vec_len l.out) l.key.slots.value.items l.slots

abbrev pub decreases-loop-slot : goal.decreases-loop-slot
decreases-loop-slot l = vec_len l.out
