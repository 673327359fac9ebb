use Rattle.std.proofs.Common.{◌≡◌}
use Rattle.fz_pool.specs.Window.{slot_sizes}
use Rattle.fz_pool.specs.Calls.{AreForDecoding}
use Rattle.fz_cases_codes.proofs.pool.put_records_of.Given as goal

abbrev pub invariant-loop-i : goal.invariant-loop-i
invariant-loop-i l = (l.window.workers ≡ l.fn.window.workers) × (slot_sizes l.window.slots ≡ slot_sizes l.fn.window.slots)
    × AreForDecoding l.i l.window.slots
