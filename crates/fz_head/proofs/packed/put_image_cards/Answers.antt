use Rattle.std.proofs.Common.{◌∙◌, ap, arith}
use Rattle.fz_block.specs.Cards.{card_at}
use Rattle.fz_head.specs.PackedHeader.{packed_card}
use Rattle.fz_head.proofs.WrittenCards.{adds-more-mapped}
use Rattle.fz_head.proofs.packed.put_image_cards.Goals as goal

pub loop-i-preserved : goal.loop-i-preserved
loop-i-preserved c = record {
  adds = adds-more-mapped packed_card (card_at c.args.buf.now) c.loop-i.i _ _ _ _ _ _ _ (c.packed_card.ensures ∙ ap packed_card c.card.ensures) c.loop-i.invariant.adds c.put-written.ensures.written;
  number = omega (arith, c.put-written.ensures.number, c.loop-i.invariant.number);
}
