use Rattle.std.proofs.Common.{arith}
use Rattle.fz_head.proofs.FoundCards.{others-more}
use Rattle.fz_head.proofs.plain.put_other_cards.Goals as goal

pub loop-i-preserved : goal.loop-i-preserved
loop-i-preserved c = record {
  adds = others-more c.args.plan.now.primary c.args.plan.now.shape.n c.args.buf.now c.loop-i.i c.card.result.bytes _ _ _ _ _ _ c.card.ensures c.loop-i.invariant.adds c.put_kept-written.ensures.written;
  number = omega (arith, c.put_kept-written.ensures.number, c.loop-i.invariant.number);
}
