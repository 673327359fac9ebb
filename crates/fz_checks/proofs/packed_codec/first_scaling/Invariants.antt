use Rattle.std.proofs.Common.{◌≡◌, ℕ, ◌<◌, false}
use Rattle.fz_block.specs.Cards.{card_at}
use Rattle.fz_head.specs.PackedChecks.{is_scaling}
use Rattle.fz_checks.proofs.packed_codec.first_scaling.Given as goal

-- no card so far says it
abbrev pub invariant-loop-i : goal.invariant-loop-i
invariant-loop-i l = (k : ℕ) → k < l.i → is_scaling l.columns (card_at l.buf k) ≡ false
