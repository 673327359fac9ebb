use Rattle.std.proofs.Common.{◌≡◌, ℕ, ◌<◌, false}
use Rattle.fz_block.specs.Cards.{card_at}
use Rattle.fz_head.specs.Packable.{is_primary}
use Rattle.fz_head.specs.PackChecks.{is_reserved_card}
use Rattle.fz_head.proofs.planning.first_reserved.Given as goal

-- no card so far is reserved
abbrev pub invariant-loop-i : goal.invariant-loop-i
invariant-loop-i l = (k : ℕ) → k < l.i → is_reserved_card (is_primary l.header.sort) l.header.axes.n (card_at l.buf k) ≡ false
