use Rattle.std.proofs.Common.{◌≡◌, ℕ, List, take, sym, ◌∙◌, subst, arith}
use mathlib.Core.Option.{some}
use lib.ListN.{get_elem?}
use Rattle.fz_pool.specs.declared.slot.Slot.{Slot}
use Rattle.std.specs.Mem.Slots.{slots_items}
use Rattle.fz_pool.specs.Slots.{IsReady}
use Rattle.fz_pool.proofs.EndLemmas.{opens}
use Rattle.fz_pool.proofs.RoundLemmas.{outs_are, ready_all, few_all, values_all, results_all, have_all, sizes_all, same_all}
use Rattle.fz_pool.proofs.round.code_on_table.Goals as goal

pub new-requires : goal.new-requires
new-requires g c = let d = c.args.key.now in let l : List Slot = d.slots.value.items in let was : l ≡ c.args.slots.now = c.requires.was in let w = c.requires.workers in let least = c.args.crew.now.some in let most = c.args.crew.now.few in
    opens (take d.count l) d.workers d.task c.move_out.new.out.items
    (outs_are c.move_out.new.out.items d.count l c.args.slots.now c.move_out.ensures.out was)
    (few_all d.count l c.requires.near.1, omega arith, omega arith)
    (subst (λ (xs : List Slot). (k : ℕ) (x : Slot) → get_elem? (take d.count xs) k ≡ some x → IsReady d.task x) (sym was) (ready_all d.task d.count c.args.slots.now c.requires.ready))

pub gather-requires-clause-values : goal.gather-requires-clause-values
gather-requires-clause-values g c = let d = c.args.key.now in let near = c.requires.near.0 in let items = slots_items c.work_all-closed.result.0.slots in
    values_all d.task d.count c.args.slots.now c.args.slots.now items near
    (have_all d c.in-Ok-new.board.shared.key c.args.slots.now items near c.in-Ok-new.ensures.ok.5 c.requires.was c.work_all-closed.ensures.results)

pub returns-in-Ok-new-clause-results : goal.returns-in-Ok-new-clause-results
returns-in-Ok-new-clause-results g c = let d = c.args.key.now in let near = c.requires.near.0 in let items = slots_items c.work_all-closed.result.0.slots in
    results_all d.task d.count c.args.slots.now c.gather.new.slots items near
    (have_all d c.in-Ok-new.board.shared.key c.args.slots.now items near c.in-Ok-new.ensures.ok.5 c.requires.was c.work_all-closed.ensures.results)
    c.gather.ensures.values

pub returns-in-Ok-new-clause-sizes : goal.returns-in-Ok-new-clause-sizes
returns-in-Ok-new-clause-sizes g c = let d = c.args.key.now in let near = c.requires.near.0 in let items = slots_items c.work_all-closed.result.0.slots in
    sizes_all d.task d.count c.args.slots.now c.gather.new.slots (c.gather.auto.slots ∙ c.move_out.auto.slots)
    (results_all d.task d.count c.args.slots.now c.gather.new.slots items near
    (have_all d c.in-Ok-new.board.shared.key c.args.slots.now items near c.in-Ok-new.ensures.ok.5 c.requires.was c.work_all-closed.ensures.results)
    c.gather.ensures.values)
    (same_all d.count c.args.slots.now c.move_out.new.slots c.gather.new.slots c.move_out.ensures.others c.gather.ensures.others)
