use Rattle.std.proofs.Common.{◌+◌, ◌*◌, length}
use Rattle.fz_pool.proofs.workers.+on_demand.Given as goal

abbrev pub decreases-work_on_demand : goal.decreases-work_on_demand
decreases-work_on_demand g l = 4 * length l.hands.now

abbrev pub decreases-work_beside : goal.decreases-work_beside
decreases-work_beside g l = 4 * length l.others.now + 2

abbrev pub decreases-work_beside-there : goal.decreases-work_beside-there
decreases-work_beside-there g l = 4 * length l.others.now + 1
