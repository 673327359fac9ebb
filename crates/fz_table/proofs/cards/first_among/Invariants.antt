-- No card so far has the name.
use Rattle.std.proofs.Common.{◌≡◌, ℕ, ◌<◌, false, bytes_eq}
use Rattle.fz_card.specs.Layout.{card_name}
use Rattle.fz_block.specs.Cards.{card_at}
use Rattle.fz_table.proofs.cards.first_among.Given as goal

abbrev pub invariant-loop-i : goal.invariant-loop-i
invariant-loop-i l = (k : ℕ) → k < l.i → bytes_eq (card_name (card_at l.buf k)) l.name.bytes ≡ false
