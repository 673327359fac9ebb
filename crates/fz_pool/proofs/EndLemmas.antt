-- The rule of the running window at first, and what it says at the end.
use Rattle.std.proofs.Common.{◌≡◌, ℕ, zero, suc, ◌<◌, ◌≤◌, true, false, List, [], ◌∷◌, map, length, Option, Some, None, ⊎_elim, refl, sym, ap, ◌∙◌, subst, arith}
use mathlib.Core.Option.{some, some-injective, some-ne-none}
use lib.ListN.{get_elem?, length-map}
use Rattle.atomic_table.specs.Table.{State, opening, Final, Seen}
use Rattle.atomic_table.proofs.Lists.{at_map}
use Rattle.fz_pool.specs.declared.task.Task.{Task}
use Rattle.fz_pool.specs.declared.slot.Slot.{Slot}
use Rattle.fz_pool.specs.declared.board.View.{View}
use Rattle.fz_pool.specs.declared.board.Turn.{Turn}
use Rattle.fz_pool.specs.declared.board.Turn.TheVariants.{Lead}
use Rattle.fz_pool.specs.Slots.{IsReady, IsResult}
use Rattle.fz_pool.specs.Running.{leading, is_unjoined, total, turns, HasStory, Knows, Kept}
use Rattle.fz_pool.proofs.CoreLemmas.{no_tile}
use Rattle.fz_pool.proofs.StoryLemmas.{no_story}
use Rattle.fz_pool.proofs.TurnLemmas.{below_at, one_of, view_at}
use Rattle.fz_pool.proofs.KeptLemmas.{known, led_is}

module _ (starts : List Slot) (workers : ℕ) (task : Task) where
  abbrev St : Type 0
  St = State (Option Slot) View

  abbrev Rule : State (Option Slot) View → Type 0
  Rule = Kept starts workers task

  abbrev K : ℕ → ℕ → View → Turn → Type 0
  K = Knows starts workers task

  -- at first
  pub opens : (xs : List (Option Slot)) → xs ≡ map Some starts → (length starts ≤ 128) × (0 < workers) × (workers ≤ 64) → ((k : ℕ) (x : Slot) → get_elem? starts k ≡ some x → IsReady task x)
      → Rule (opening (0 ∷ []) xs (leading starts workers task))
  opens xs are small ready = let v : View = leading starts workers task in record {
    ticket = 0;
    word = refl;
    wide = refl;
    deep = length-map xs some ∙ (ap (λ (l : List (Option Slot)). length l) are ∙ length-map starts (λ (x : Slot). Some x));
    small = small;
    ready = ready;
    each = λ j u e. one_view j u e;
    apart = λ i j k e _. absurd (no_tile k (sym (no_turn i) ∙ e));
    led = record { left = workers; n = 0; late = false; view = v; at = refl; turn = refl; are_unjoined = refl; all = refl };
    tickets = omega arith;
    fresh = λ k x _ e. at_map (λ (o : Option Slot). some o) xs k (Some x) (ap (λ (l : List (Option Slot)). get_elem? l k) are ∙ at_map (λ (z : Slot). Some z) starts k x e);
    gone = λ k l _. absurd (omega arith);
    away = λ j k e. absurd (no_tile k (sym (no_turn j) ∙ e));
    story = subst (HasStory workers (length starts) 0) (λ i j. sym (no_turn j) i) (no_story workers (length starts));
  }
    where
      no_late : false ≡ true → ⊥
      no_late f = cc

      no_turn : (j : ℕ) → turns (leading starts workers task ∷ []) j ≡ None
      no_turn zero = refl
      no_turn (suc j) = refl

      one_view : (j : ℕ) (u : View) → get_elem? (leading starts workers task ∷ []) j ≡ some u → K 0 j u u.turn
      one_view zero u e = subst (λ (z : View). K 0 0 z z.turn) (some-injective (leading starts workers task) u e)
          (record { has_starts = refl; has_workers = refl; has_task = refl }, refl, omega arith, λ f. absurd (no_late f))
      one_view (suc j) u e = absurd (some-ne-none u (sym e))

  -- at the end each slot is at home with its result
  pub closes : (ws : List ℕ) (xs : List (Option Slot)) (id : ℕ) (v : View) (left : ℕ) → v.turn ≡ Lead left 0 true → Final (Seen Rule id v) ws xs
      → (k : ℕ) (x : Slot) → get_elem? starts k ≡ some x → (y : Slot) × (get_elem? xs k ≡ some (Some y)) × IsResult task x y
  closes ws xs id v left turn final k x there =
      let s : St = final.0 in let r : Rule s = final.1.0 in let at = final.1.1 in
      let n = known starts workers task s r id v (Lead left 0 true) at turn in
      let l = led_is starts workers task s r id v left 0 true at turn in
      let past : length starts ≤ r.ticket = n.3 refl in
      let inside : k < length starts = below_at starts k x there in
      let none_out : 0 ≡ total is_unjoined s.views = l.1 in
      ⊎_elim
      (λ (p : (j : ℕ) × (turns s.views j ≡ Some k)).
      let q = view_at (get_elem? s.views p.0) k p.1 in
      let one = one_of is_unjoined s.views p.0 q.0 q.1 in
      let is_one : is_unjoined q.0.turn ≡ 1 = ap is_unjoined q.2 in absurd (omega arith))
      (λ (p : (a y : Slot) × (get_elem? starts k ≡ some a) × (get_elem? s.homes k ≡ some (some (Some y))) × IsResult task a y).
      (p.1, final.4 k (Some p.1) p.3, subst (λ (z : Slot). IsResult task z p.1) (some-injective p.0 x (sym p.2 ∙ there)) p.4))
      (r.gone k (omega arith) inside)
