use Rattle.std.proofs.Common.{arith, ◌≡◌, ◌<◌, ◌-◌, ℕ, map, take, set, Option, Some, None, vec_len, refl, sym, ap, ◌∙◌, subst, length-set}
use Rattle.fz_pool.specs.declared.slot.Slot.{Slot}
use Rattle.fz_pool.specs.Calls.{AreSameFrom}
use Rattle.fz_pool.proofs.MovingLemmas.{back_rest, back_value, same_back, all_back}
use Rattle.fz_pool.proofs.moving.move_back.Goals as goal

inner : (x y : Option Slot) → Some x ≡ Some y → x ≡ y
inner x y e = cc

innermost : (x y : Slot) → Some x ≡ Some y → x ≡ y
innermost x y e = cc

not_none : (y : Slot) → None ≡ Some y → ⊥
not_none y e = cc

pub unreachable-requires : goal.unreachable-requires
unreachable-requires c = let e : Option Slot = None in let n : ℕ = vec_len c.loop-slot.out in let any : 0 < n = c.in-Some.ensures.variant.0 refl in
    let was = c.args.key.now.slots.value in let len = was.ok.0 in let near = c.loop-slot.invariant.0 in let all = c.requires.near.1 in let same = c.loop-slot.auto.slots in
    let v = back_value was.items n c.loop-slot.out.items e any (omega arith) c.loop-slot.invariant.1 in
    let is : Some c.in-Some.slot ≡ Some (Some v.0) = sym c.in-Some.is ∙ (c.pop.ensures.value e any ∙ ap (λ (o : Option Slot). Some o) v.1) in
    not_none v.0 (sym c.in_default-slot.is ∙ inner c.in-Some.slot (Some v.0) is)

pub loop-slot-preserved : goal.loop-slot-preserved
loop-slot-preserved c = let e : Option Slot = None in let n : ℕ = vec_len c.loop-slot.out in let any : 0 < n = c.in-Some.ensures.variant.0 refl in
    let was = c.args.key.now.slots.value in let len = was.ok.0 in let near = c.loop-slot.invariant.0 in let all = c.requires.near.1 in let same = c.loop-slot.auto.slots in
    let v = back_value was.items n c.loop-slot.out.items e any (omega arith) c.loop-slot.invariant.1 in
    let is : Some c.in-Some.slot ≡ Some (Some v.0) = sym c.in-Some.is ∙ (c.pop.ensures.value e any ∙ ap (λ (o : Option Slot). Some o) v.1) in
    let y : Slot = c.in-Some-slot.slot in
    let y_is : y ≡ v.0 = innermost y v.0 (sym c.in-Some-slot.is ∙ inner c.in-Some.slot (Some v.0) is) in
    let fewer : vec_len c.pop.new.self ≡ n - 1 = let m = c.in-Some.ensures.cases in omega arith in
    let at : c.len.result ≡ n - 1 = c.len.ensures ∙ fewer in
    let long = length-set c.loop-slot.slots c.len.result y in (
      omega arith,
      subst (λ (k : ℕ). c.pop.new.self.items ≡ map (λ (x : Slot). Some x) (take k was.items)) (sym fewer) (back_rest was.items n c.loop-slot.out.items c.pop.new.self.items c.loop-slot.invariant.1 c.pop.ensures.rest),
      subst (λ (k : ℕ). AreSameFrom k was.items (set c.loop-slot.slots c.len.result y)) (sym fewer)
          (subst (λ (k : ℕ). AreSameFrom (n - 1) was.items (set c.loop-slot.slots k y)) (sym at)
          (same_back was.items c.loop-slot.slots n y any near c.loop-slot.invariant.2 (λ d. y_is ∙ v.2 d))),
    )

pub returns : goal.returns
returns c = let i = c.loop-slot.invariant in let was = c.args.key.now.slots.value in let len = was.ok.0 in let all = c.requires.near.1 in let same = c.loop-slot.auto.slots in
    let none_left : vec_len c.loop-slot.out ≡ 0 = c.in_default.ensures.cases.0 in
    all_back was.items c.loop-slot.slots (omega arith) (subst (λ (k : ℕ). AreSameFrom k was.items c.loop-slot.slots) none_left i.2)
