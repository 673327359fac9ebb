-- No card so far is END: the search after them says where it is.
use Rattle.std.proofs.Common.{◌≡◌, ◌-◌, ◌*◌, drop}
use Rattle.fz_block.specs.Cards.{end_among, end_of}
use Rattle.fz_block.proofs.Ends.{from}
use Rattle.fz_block.proofs.cards.end_card.Given as goal

abbrev pub invariant-loop-i : goal.invariant-loop-i
invariant-loop-i l = end_of l.cards ≡ from l.i (end_among (l.count - l.i) (drop (80 * l.i) l.cards))
