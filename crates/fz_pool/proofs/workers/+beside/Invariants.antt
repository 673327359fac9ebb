use Rattle.std.proofs.Common.{◌+◌, ◌*◌, length}
use Rattle.fz_pool.proofs.workers.+beside.Given as goal

abbrev pub decreases-work_with : goal.decreases-work_with
decreases-work_with g l = 4 * length l.hands.now

abbrev pub decreases-hand_over : goal.decreases-hand_over
decreases-hand_over g l = 4 * length l.others.now + 2

abbrev pub decreases-hand_over-here : goal.decreases-hand_over-here
decreases-hand_over-here g l = 4 * length l.others.now + 1
