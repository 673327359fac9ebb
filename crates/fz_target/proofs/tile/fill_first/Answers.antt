-- The slot that was lent is put back.
use Rattle.std.proofs.Common.{◌≡◌, ℕ, ◌*◌, List, length, Option, sym, ap, ◌∙◌, subst, rules}
use Rattle.fz_pool.specs.Window.{IsPut, slot_size, with_slot}
use Rattle.fz_pool.specs.declared.slot.Slot.{Slot}
use Rattle.fz_target.proofs.tile.fill_first.Goals as goal

pub fill_slot-requires-clause-room : goal.fill_slot-requires-clause-room
fill_slot-requires-clause-room g c =
    let n : ℕ = c.requires.window.0.0 in
    (n, c.sizes_law.ensures.alike c.args.window.now.slots (2 * c.args.window.now.workers) _ 0 c.slot_mut.result.now c.requires.window.0.1 (search rules) c.slot_mut.ensures.value, c.requires.window.0.2)
