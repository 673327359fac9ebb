use Rattle.std.proofs.Common.{◌≡◌, ℕ, List, [], ◌∷◌, ◌-◌, ◌+◌, ◌∙◌, ap, codes, refl, arith}
use Rattle.std.specs.Prelude.{slice_index}
use Rattle.fz_head.specs.PackedHeader.{flag_card, word_card, codec_name, numbered_number_card}
use Rattle.fz_head.proofs.WrittenCards.{adds-more-behind}
use Rattle.fz_head.proofs.packed.put_tile_cards.Goals as goal

-- the card of an axis, whose number is counted from 1
tile_card : (card : List ℕ) (length i : ℕ) (lengths : List ℕ) → card ≡ numbered_number_card (codes "ZTILE") (i + 1) length → length ≡ slice_index lengths i →
    card ≡ numbered_number_card (codes "ZTILE") (i + 1) (slice_index lengths (i + 1 - 1))
tile_card card length i lengths is value =
    let back : i ≡ i + 1 - 1 = omega arith in
    is ∙ (ap (numbered_number_card (codes "ZTILE") (i + 1)) value ∙ ap (λ k. numbered_number_card (codes "ZTILE") (i + 1) (slice_index lengths k)) back)

pub loop-i-preserved : goal.loop-i-preserved
loop-i-preserved c = record {
  adds = adds-more-behind (flag_card (codes "ZIMAGE") ∷ word_card (codes "ZCMPTYPE") (codec_name c.args.plan.now.codec) ∷ []) (λ i. numbered_number_card (codes "ZTILE") i (slice_index c.args.plan.now.tile.len (i - 1))) 1 c.loop-i.i (c.loop-i.i + 1) c.length_card.result.bytes _ _ _ _ _ _ (omega arith)
      (tile_card c.length_card.result.bytes _ c.loop-i.i c.args.plan.now.tile.len c.length_card.ensures refl)
      c.loop-i.invariant.adds c.put-written.ensures.written;
  number = omega (arith, c.put-written.ensures.number, c.loop-i.invariant.number);
}
