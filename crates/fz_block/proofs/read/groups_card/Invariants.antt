-- No card so far is GROUPS with T: the search after them says where it is.
use Rattle.std.proofs.Common.{◌≡◌, ◌-◌, ◌*◌, drop, codes}
use Rattle.fz_block.specs.Cards.{first_among}
use Rattle.fz_block.specs.Checks.{is_set}
use Rattle.fz_block.proofs.Ends.{from}
use Rattle.fz_block.proofs.read.groups_card.Given as goal

abbrev pub invariant-loop-i : goal.invariant-loop-i
invariant-loop-i l = first_among (is_set (codes "GROUPS")) l.cards l.buf ≡ from l.i (first_among (is_set (codes "GROUPS")) (l.cards - l.i) (drop (80 * l.i) l.buf))
