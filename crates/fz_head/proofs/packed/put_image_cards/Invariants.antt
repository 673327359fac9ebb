use Rattle.std.proofs.Common.{◌≡◌, ◌+◌, map}
use Rattle.fz_head.specs.PackedHeader.{packed_card}
use Rattle.fz_head.specs.Written.{Adds, first_cards}
use Rattle.fz_head.proofs.packed.put_image_cards.Given as goal

abbrev pub invariant-loop-i : goal.invariant-loop-i
invariant-loop-i l = record {
  adds : Adds (map packed_card (first_cards l.buf l.i)) l.fn.count l.fn.out l.written l.out;
  number : l.written ≡ l.fn.count + l.i;
}
