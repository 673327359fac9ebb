-- A slot of the window that is lent out to be written.
use Rattle.std.specs.Prelude.{ℕ}
use Rattle.std.specs.Borrow.{Lends, MutBor, Fml}
use Rattle.fz_pool.specs.declared.slot.Slot.{Slot}
use Rattle.fz_pool.specs.contracts.slot.Slot.{the_row as slot_row}
use Rattle.fz_pool.specs.contracts.window.Window.{the_row}
use Rattle.fz_pool.specs.Window.{Pool, with_slot}

-- the window ends with what was left in its slot i
abbrev pub LendsSlot : ℕ → MutBor Pool → MutBor Slot → Fml
LendsSlot i w x = Lends the_row slot_row w x (with_slot w.now i)
