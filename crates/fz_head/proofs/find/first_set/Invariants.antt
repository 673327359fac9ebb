use Rattle.std.proofs.Common.{◌≡◌, ℕ, ◌<◌, false}
use Rattle.std.specs.Prelude.{◌&&◌, unwrap_or}
use Rattle.fz_card.specs.Reading.{logical_of}
use Rattle.fz_card.specs.CardLists.{has_name}
use Rattle.fz_block.specs.Cards.{card_at}
use Rattle.fz_head.proofs.find.first_set.Given as goal

-- no card so far has it
abbrev pub invariant-loop-i : goal.invariant-loop-i
invariant-loop-i l = (k : ℕ) → k < l.i → (has_name l.name.bytes (card_at l.buf k) && unwrap_or (logical_of (card_at l.buf k)) false) ≡ false
