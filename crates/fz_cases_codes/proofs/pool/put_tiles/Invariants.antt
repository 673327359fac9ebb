use Rattle.std.proofs.Common.{◌≡◌}
use Rattle.fz_pool.specs.Window.{slot_sizes}
use Rattle.fz_pool.specs.Calls.{AreForEncoding}
use Rattle.fz_cases_codes.proofs.pool.put_tiles.Given as goal

abbrev pub invariant-loop-i : goal.invariant-loop-i
invariant-loop-i l = (l.window.workers ≡ l.fn.window.workers) × (slot_sizes l.window.slots ≡ slot_sizes l.fn.window.slots)
    × AreForEncoding l.i l.window.slots
