use Rattle.std.proofs.Common.{◌-◌}
use Rattle.fz_pool.specs.Hands.{IsIdle, IsSame}
use Rattle.fz_pool.proofs.workers.code_tiles.Given as goal

abbrev pub invariant-loop-i : goal.invariant-loop-i
invariant-loop-i g l = IsSame l.fn.hand l.hand × IsIdle l.hand

abbrev pub decreases-loop-i : goal.decreases-loop-i
decreases-loop-i g l = l.board.shared.table_id.slots - l.hand.me.0.seen
