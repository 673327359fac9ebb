use Rattle.std.proofs.Common.{◌≡◌, List, Option, Some, None, sym, ap, ◌∙◌}
use mathlib.Core.Option.{some}
use lib.ListN.{get_elem?}
use Rattle.fz_pool.specs.declared.slot.Slot.{Slot}
use Rattle.fz_pool.proofs.moving.gather.Goals as goal

not_none : (y : Slot) (o : Option Slot) → some o ≡ some (Some y) → o ≡ None → ⊥
not_none y o e f = let g : o ≡ Some y = cc in cc

pub unreachable-requires : goal.unreachable-requires
unreachable-requires c = let v = c.requires.values c.loop-i.i c.loop-i-test.true in
    not_none v.0 c.take.result (sym c.take.ensures.value ∙ (ap (λ (l : List (Option Slot)). get_elem? l c.loop-i.i) c.loop-i.invariant.0 ∙ v.1)) c.in_default.is
