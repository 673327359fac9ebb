use Rattle.std.proofs.Common.{◌≡◌, ℕ, ◌<◌, false}
use Rattle.std.specs.Prelude.{bytes_eq}
use Rattle.fz_card.specs.Layout.{card_name}
use Rattle.fz_block.specs.Cards.{card_at}
use Rattle.fz_head.specs.Once.{name_in}
use Rattle.fz_head.proofs.repeats.is_among.Given as goal

-- no card so far has the name
abbrev pub invariant-loop-i : goal.invariant-loop-i
invariant-loop-i l = (k : ℕ) → k < l.i → bytes_eq (name_in l.of (card_name (card_at l.buf k))) (name_in l.of l.fn.name.bytes) ≡ false
