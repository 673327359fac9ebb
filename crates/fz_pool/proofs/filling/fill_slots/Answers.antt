use Rattle.fz_pool.proofs.WindowLemmas.{refused_in}
use Rattle.fz_pool.proofs.filling.fill_slots.Goals as goal

pub returns-in-Err-clause-refused : goal.returns-in-Err-clause-refused
returns-in-Err-clause-refused c = let i = c.loop-i.invariant in
    refused_in c.args.meter.now c.loop-i.meter _ c.args.count c.args.n c.loop-i._i c.in-Err.short c.loop-i.slots.items c.loop-i-test.true i.3 i.4 i.5 i.0 c.in-Err.ensures.refused
