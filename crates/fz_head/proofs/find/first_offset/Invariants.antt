use Rattle.std.proofs.Common.{◌≡◌, ℕ, ◌<◌, false}
use Rattle.fz_block.specs.Cards.{card_at}
use Rattle.fz_head.specs.PackChecks.{is_offset}
use Rattle.fz_head.proofs.find.first_offset.Given as goal

-- no card so far has it
abbrev pub invariant-loop-i : goal.invariant-loop-i
invariant-loop-i l = (k : ℕ) → k < l.i → is_offset (card_at l.buf k) ≡ false
