use Rattle.std.proofs.Common.{◌≤◌, ◌+◌}
use Rattle.fz_head.specs.PlainHeader.{part_cards_of}
use Rattle.fz_head.specs.Written.{Adds, first_cards}
use Rattle.fz_head.proofs.plain.put_part_cards.Given as goal

abbrev pub invariant-loop-i : goal.invariant-loop-i
invariant-loop-i l = record {
  adds : Adds (part_cards_of l.plan.primary l.plan.shape.n (first_cards l.buf l.i)) l.fn.count l.fn.out l.written l.out;
  number : l.written ≤ l.fn.count + l.i;
}
