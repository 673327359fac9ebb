-- The record is read by one reading.
use Rattle.std.proofs.Common.{[], ◌∷◌}
use Rattle.fz_fetch.proofs.Records.{may_log}
use Rattle.fz_fetch.proofs.loading.load_slot.Goals as goal

pub returns-clause-read : goal.returns-clause-read
returns-clause-read g c =
    let found = c.args.found.now in
    let old = g.S.Source.ranges c.args.source.now in
    let new = g.S.Source.ranges c.read_record.new.source in
    c.ranges_law.ensures.some ((found.start, found.read) ∷ []) ((found.start, found.read) ∷ []) old new (λ byte lies. lies)
    (may_log c.read_record.result found.start found.read old new c.read_record.ensures.read c.read_record.ensures.failed)
