use Rattle.std.proofs.Common.{◌≡◌, ℕ, ◌<◌, false}
use Rattle.fz_block.specs.Cards.{card_at}
use Rattle.fz_head.specs.PlainHeader.{says_what}
use Rattle.fz_head.proofs.plain.first_saying.Given as goal

-- no card so far says it
abbrev pub invariant-loop-i : goal.invariant-loop-i
invariant-loop-i l = (k : ℕ) → k < l.i → says_what (card_at l.buf k) ≡ false
