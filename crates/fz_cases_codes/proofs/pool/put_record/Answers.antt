use Rattle.std.proofs.Common.{◌+◌, ◌*◌, ◌∙◌, sym}
use Rattle.fz_cases_codes.proofs.pool.put_record.Goals as goal

pub set_record-requires-clause-size : goal.set_record-requires-clause-size
set_record-requires-clause-size c = c.sizes_law.ensures.alike c.args.window.now.slots (2 * c.args.window.now.workers) (2 * c.args.n, 8 * c.args.n + 64) c.args.i _ c.requires.sizes c.requires.near.1 c.slot_mut.ensures.value

pub returns : goal.returns
returns c = let w = c.args.window.now in
    (c.set_record.new.slot, c.put_law.ensures.put w c.args.i _ c.set_record.new.slot c.slot_mut.ensures.value (c.set_record.ensures.size ∙ sym (c.sizes_law.ensures.alike w.slots (2 * w.workers) (2 * c.args.n, 8 * c.args.n + 64) c.args.i _ c.requires.sizes c.requires.near.1 c.slot_mut.ensures.value)), c.set_record.ensures.ready)
