-- The window is filled.
use Rattle.std.proofs.Common.{ℕ, ◌+◌, ◌*◌}
use Rattle.fz_cases_rows.proofs.fetch.expect_numbers.Goals as goal

pub slot-slot-requires-clause-filled : goal.slot-slot-requires-clause-filled
slot-slot-requires-clause-filled g c =
    let n : ℕ = c.requires.filled.0 in
    c.sizes_law.ensures.many c.args.window.now.slots (2 * c.args.window.now.workers) (2 * n, 8 * n + 64) c.requires.filled.1
