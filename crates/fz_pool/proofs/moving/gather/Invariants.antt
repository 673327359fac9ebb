use Rattle.std.proofs.Common.{◌≡◌, ◌<◌, ℕ, Some, false, get_or}
use mathlib.Core.Option.{some}
use lib.ListN.{get_elem?}
use Rattle.std.specs.Mem.Slots.{slots_items, slots_filled, slots_len}
use Rattle.std.specs.Mem.Slots.Ownership.{Filled}
use Rattle.fz_pool.specs.declared.slot.Slot.{Slot}
use Rattle.fz_pool.specs.Calls.{AreSameFrom}
use Rattle.fz_pool.proofs.moving.gather.Given as goal

abbrev pub invariant-loop-i : goal.invariant-loop-i
invariant-loop-i l = (slots_items l.closed.slots ≡ slots_items l.fn.closed.slots) × (slots_len l.closed.slots ≡ slots_len l.fn.closed.slots)
    × Filled (slots_filled l.closed.slots) l.i (slots_len l.closed.slots) × ((k : ℕ) → k < l.i → get_or (slots_filled l.closed.slots) k false ≡ false)
    × ((k : ℕ) (d : Slot) → k < l.i → get_elem? (slots_items l.closed.slots) k ≡ some (Some (get_or l.slots k d)))
    × AreSameFrom l.fn.count l.fn.slots l.slots
