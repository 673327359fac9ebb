use Rattle.std.proofs.Common.{◌≡◌, ℕ, ◌*◌, ◌<◌, false, take, drop}
use Rattle.fz_card.specs.CardLists.{has_name}
use Rattle.fz_card.proofs.list.first_of_name.Given as goal

-- no card so far has the name
abbrev pub invariant-loop-i : goal.invariant-loop-i
invariant-loop-i l = (k : ℕ) → k < l.i → has_name l.name.bytes (take 80 (drop (80 * k) l.buf)) ≡ false
