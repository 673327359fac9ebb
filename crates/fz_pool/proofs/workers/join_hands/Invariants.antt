use Rattle.std.proofs.Common.{◌≡◌, ◌⊎◌, Bool, true, All, vec_len}
use Rattle.fz_pool.specs.Hands.{IsBack, Leads}
use Rattle.fz_pool.proofs.workers.join_hands.Given as goal

abbrev pub invariant-loop-hand : goal.invariant-loop-hand
invariant-loop-hand l = (late : Bool) × Leads l.board.shared.table_id l.board.shared.key l.fn.task 0 (vec_len l.hands) late l.first × ((vec_len l.hands ≡ vec_len l.fn.hands) ⊎ (late ≡ true))
    × All (IsBack l.board.shared.table_id) l.hands.items

abbrev pub decreases-loop-hand : goal.decreases-loop-hand
decreases-loop-hand l = vec_len l.hands
