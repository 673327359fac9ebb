use Rattle.std.proofs.Common.{◌≡◌, ◌+◌, ◌≤◌, vec_len, vec_capacity}
use Rattle.fz_pool.specs.Window.{asked_for}
use Rattle.fz_pool.proofs.filling.give_slots.Given as goal

abbrev pub invariant-loop-slot : goal.invariant-loop-slot
invariant-loop-slot l = (asked_for l.slots.items ≤ l.meter.live) × (l.meter.live + asked_for l.fn.slots.items ≡ l.fn.meter.live + asked_for l.slots.items)
    × (l.meter.peak ≡ l.fn.meter.peak) × (l.meter.limit ≡ l.fn.meter.limit) × (vec_capacity l.slots ≡ vec_capacity l.fn.slots)

abbrev pub decreases-loop-slot : goal.decreases-loop-slot
decreases-loop-slot l = vec_len l.slots
