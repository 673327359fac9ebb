use Rattle.std.proofs.Common.{◌*◌, ◌∙◌, sym}
use Rattle.fz_cases_codes.proofs.pool.put_tile.Goals as goal

pub set_tile-requires : goal.set_tile-requires
set_tile-requires c = c.sizes_law.ensures.alike c.args.window.now.slots (2 * c.args.window.now.workers) (2, 72) c.args.i _ c.requires.sizes c.requires.near.1 c.slot_mut.ensures.value

pub returns : goal.returns
returns c = let w = c.args.window.now in
    (c.set_tile.new.slot, c.put_law.ensures.put w c.args.i _ c.set_tile.new.slot c.slot_mut.ensures.value (c.set_tile.ensures.size ∙ sym (c.sizes_law.ensures.alike w.slots (2 * w.workers) (2, 72) c.args.i _ c.requires.sizes c.requires.near.1 c.slot_mut.ensures.value)), c.set_tile.ensures.ready)
