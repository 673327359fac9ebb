use Rattle.std.proofs.Common.{◌≡◌, ◌-◌, ◌≤◌, false, All, vec_len, vec_capacity}
use Rattle.fz_pool.specs.Hands.{IsSeated, Leads}
use Rattle.fz_pool.proofs.workers.split_hands.Given as goal

abbrev pub invariant-loop-i : goal.invariant-loop-i
invariant-loop-i l = Leads l.board.shared.table_id l.board.shared.key l.fn.task (l.fn.workers - l._i) l._i false l.first × All (IsSeated l.board.shared.table_id l.board.shared.key l.fn.task) l.hands.items
    × (vec_len l.hands ≡ l._i) × (l.fn.workers ≤ vec_capacity l.hands)
