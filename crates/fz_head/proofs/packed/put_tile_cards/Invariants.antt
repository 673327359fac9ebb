use Rattle.std.proofs.Common.{◌≡◌, ◌+◌, ◌-◌, ◌∷◌, codes, map}
use Rattle.std.specs.Prelude.{slice_index}
use Rattle.std.specs.List.{range_with_len}
use Rattle.fz_head.specs.PackedHeader.{flag_card, word_card, codec_name, numbered_number_card}
use Rattle.fz_head.specs.Written.{Adds}
use Rattle.fz_head.proofs.packed.put_tile_cards.Given as goal

abbrev pub invariant-loop-i : goal.invariant-loop-i
invariant-loop-i l = record {
  adds : Adds (flag_card (codes "ZIMAGE") ∷ word_card (codes "ZCMPTYPE") (codec_name l.plan.codec)
      ∷ map (λ i. numbered_number_card (codes "ZTILE") i (slice_index l.plan.tile.len (i - 1))) (range_with_len 1 l.i)) l.fn.count l.fn.out l.written l.out;
  number : l.written ≡ l.fn.count + (2 + l.i);
}
