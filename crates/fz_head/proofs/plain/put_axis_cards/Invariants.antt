use Rattle.std.proofs.Common.{◌≤◌, ◌+◌}
use Rattle.std.specs.List.{flat_map, range_with_len}
use Rattle.fz_block.specs.Hdus.{cards_of}
use Rattle.fz_head.specs.PlainHeader.{axis_card}
use Rattle.fz_head.specs.Written.{Adds}
use Rattle.fz_head.proofs.plain.put_axis_cards.Given as goal

abbrev pub invariant-loop-i : goal.invariant-loop-i
invariant-loop-i l = record {
  adds : Adds (flat_map (axis_card (cards_of l.buf)) (range_with_len 1 l.i)) l.fn.count l.fn.out l.written l.out;
  number : l.written ≤ l.fn.count + l.i;
}
