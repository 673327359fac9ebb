use Rattle.std.proofs.Common.{◌≡◌, ℕ, List, [], ◌∷◌, Option, Some, ap, sym, ◌∙◌, subst}
use lib.ListN.{get_elem?}
use Rattle.atomic_table.specs.Table.{rest}
use Rattle.fz_pool.specs.declared.slot.Slot.{Slot}
use Rattle.fz_pool.specs.declared.board.View.{View}
use Rattle.fz_pool.specs.declared.task.Task.{Task}
use Rattle.fz_pool.specs.Slots.{IsResult}
use Rattle.fz_pool.proofs.steps.work_on.Goals as goal

abbrev head_or : (ℕ × Option Slot) → List (ℕ × Option Slot) → ℕ × Option Slot
head_or d [] = d
head_or d (x ∷ xs) = x

-- what a hand with one slot has
one_slot : (l : List (ℕ × Option Slot)) (k : ℕ) (x y : Option Slot) → l ≡ (k, x) ∷ [] → l ≡ (k, y) ∷ rest l → y ≡ x
one_slot l k x y e f = ap (λ (p : ℕ × Option Slot). p.1) (ap (head_or (k, x)) (sym f ∙ e))

one_value : (x y : Slot) → Some x ≡ Some y → x ≡ y
one_value x y e = cc

pub exchange-slot-requires : goal.exchange-slot-requires
exchange-slot-requires c = let s = c.requires.start in let x : Option Slot = Some s.slot in
    (c.requires.seat.0, (x, s.held ∙ ap (λ (r : List (ℕ × Option Slot)). (c.args.i, x) ∷ r) (sym (ap rest s.held))))

pub returns-clause-done : goal.returns-clause-done
returns-clause-done c = let s = c.requires.start in let a = c.exchange-slot.ensures in let b = c.exchange.ensures in
    let found : Some c.in-Some.slot ≡ Some s.slot = sym c.in-Some.is ∙ one_slot _ c.args.i (Some s.slot) _ s.held a.2 in
    let same : c.in-Some.slot ≡ s.slot = one_value _ _ found in
    let view : c.exchange.new.seat.me.0 ≡ c.args.hand.now.me.0 = ap (λ m. m.0) b.3 ∙ ap (λ m. m.0) a.3 in
    record {
      turn = ap (λ (v : View). v.turn) view ∙ s.turn;
      slot = s.slot;
      at = ap (λ (v : View). get_elem? v.starts c.args.i) view ∙ s.at;
      after = c.code_slot.new.slot;
      result = subst (λ (b : Task). IsResult b s.slot c.code_slot.new.slot) (c.requires.task ∙ ap (λ (v : View). v.task) (sym view))
          (subst (λ (z : Slot). IsResult c.args.task z c.code_slot.new.slot) same c.code_slot.ensures);
      held = ap (λ m. m.1) b.3 ∙ ap (λ (r : List (ℕ × Option Slot)). let y : Option Slot = Some c.code_slot.new.slot in (c.args.i, y) ∷ r) (ap rest (ap (λ m. m.1) a.3) ∙ ap rest s.held);
    }
