use Rattle.std.proofs.Common.{◌≡◌, ◌∙◌, ℕ, ◌∷◌, List, Option, Some, ap, sym}
use Rattle.atomic_table.specs.Table.{rest}
use Rattle.fz_pool.specs.declared.slot.Slot.{Slot}
use Rattle.fz_pool.proofs.workers.tile_number.Goals as goal

pub slot_mut-requires : goal.slot_mut-requires
slot_mut-requires c = let s = c.requires.start in let x : Option Slot = Some s.slot in
    (c.requires.seat, (x, s.held ∙ ap (λ (r : List (ℕ × Option Slot)). (c.args.i, x) ∷ r) (sym (ap rest s.held))))

pub returns-clause-hand : goal.returns-clause-hand
returns-clause-hand c = let h = c.args.hand.now in let e = c.slot_mut.ensures.value in let i = c.in-Some.is in
    let same : h.me.1 ≡ (c.args.i, Some c.in-Some.slot) ∷ rest h.me.1 = e ∙ ap (λ (o : Option Slot). (c.args.i, o) ∷ rest h.me.1) i in
    λ k. record { marker = h.marker; table_id = h.table_id; id = h.id; me = (h.me.0, sym same k) }
