-- The slot that was lent is put back with its job.
use Rattle.std.proofs.Common.{◌≡◌, List, length, ap, ◌∙◌, subst, sym}
use Rattle.fz_pool.specs.Window.{IsPut, slot_size, with_slot}
use Rattle.fz_pool.specs.declared.slot.Slot.{Slot}
use Rattle.fz_compare.specs.Compared.{with_job}
use Rattle.fz_compare.proofs.coded.set_next.Goals as goal

pub returns-clause-put : goal.returns-clause-put
returns-clause-put c =
    let x : Slot = c.slot_mut.result.now in
    let w = c.args.window.now in
    let size : slot_size c.set_job.new.slot ≡ slot_size x = ap slot_size c.set_job.ensures.slot in
    (x, c.slot_mut.ensures.value, subst (λ (y : Slot). IsPut w c.args.i y (with_slot w c.args.i c.set_job.new.slot)) c.set_job.ensures.slot (c.put_law.ensures.put w c.args.i x c.set_job.new.slot c.slot_mut.ensures.value size))
