use Rattle.std.proofs.Common.{◌≡◌, ◌+◌, ◌*◌, ◌≤◌, max, replicate, vec_len, vec_capacity}
use Rattle.fz_pool.specs.Window.{fresh_slot, fresh_bytes}
use Rattle.fz_pool.proofs.filling.fill_slots.Given as goal

abbrev pub invariant-loop-i : goal.invariant-loop-i
invariant-loop-i l = (l.slots.items ≡ replicate l._i (fresh_slot l.fn.n)) × (vec_len l.slots ≡ l._i) × (vec_capacity l.slots ≡ vec_capacity l.fn.slots)
    × (l.meter.live ≡ l.fn.meter.live + l._i * fresh_bytes l.fn.n) × (l.meter.peak ≡ max l.fn.meter.peak l.meter.live) × (l.meter.limit ≡ l.fn.meter.limit) × (l.meter.live ≤ l.meter.limit)
