use Rattle.std.proofs.Common.{◌≡◌, None, Some, []}
use Rattle.fz_base.specs.Counts.{tally_of, uncounted}
use Rattle.fz_base.proofs.mem_store.MemStore.new.Goals as goal

pub returns-clause-tally : goal.returns-clause-tally
returns-clause-tally c =
    let t : tally_of c.new.result.calls.counts ≡ uncounted = c.new.ensures.tally in
    λ j. record { faults = (t j).faults; wants = (t j).wants; names = None; amended = record { writes = Some (c.new-2.ensures.items j); settled = 0; faults = c.new.ensures.write_faults j } }
