use Rattle.std.proofs.Common.{arith}
use Rattle.fz_head.proofs.FoundCards.{parts-more}
use Rattle.fz_head.proofs.plain.put_part_cards.Goals as goal

pub loop-i-preserved : goal.loop-i-preserved
loop-i-preserved c = record {
  adds = parts-more c.args.plan.now.primary c.args.plan.now.shape.n c.args.buf.now c.loop-i.i c.card.result.bytes _ _ _ _ _ _ c.card.ensures c.loop-i.invariant.adds c.put_part-written.ensures.written;
  number = omega (arith, c.put_part-written.ensures.number, c.loop-i.invariant.number);
}
