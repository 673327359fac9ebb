-- A seat that is split off or joined keeps the rule of the running window.
use Rattle.std.proofs.Common.{◌≡◌, ◌⊎◌, ℕ, zero, suc, ◌+◌, ◌-◌, ◌<◌, ◌≤◌, Bool, true, List, [], ◌∷◌, ◌++◌, length, set, Option, Some, inl, inr, ⊎_elim, refl, sym, ap, ◌∙◌, subst, arith, length-set, length-append}
use mathlib.Core.Option.{none, some, some-injective, some-ne-none}
use lib.ListN.{get_elem?}
use Rattle.atomic_table.specs.Table.{State, Splits, Joins}
use Rattle.atomic_table.proofs.Lists.{set_here, set_else, at_longer}
use Rattle.fz_pool.specs.declared.task.Task.{Task}
use Rattle.fz_pool.specs.declared.slot.Slot.{Slot}
use Rattle.fz_pool.specs.declared.board.View.{View}
use Rattle.fz_pool.specs.declared.board.Turn.{Turn}
use Rattle.fz_pool.specs.declared.board.Turn.TheVariants.{Ended, Lead}
use Rattle.fz_pool.specs.Running.{is_unjoined, is_finished, total, tile_of, turns, HasStory, Knows, Gone, Led, Kept, turn_after_split, view_after_split, new_view, turn_after_join, view_after_join, joined_view}
use Rattle.fz_pool.proofs.TurnLemmas.{below_at, total_set, total_push, turns_still, turns_push}
use Rattle.fz_pool.proofs.KeptLemmas.{each_set, known, led_is}

module _ (starts : List Slot) (workers : ℕ) (task : Task) where
  abbrev St : Type 0
  St = State (Option Slot) View

  abbrev Rule : State (Option Slot) View → Type 0
  Rule = Kept starts workers task

  abbrev K : ℕ → ℕ → View → Turn → Type 0
  K = Knows starts workers task

  -- a step of the first seat, at which words, slots and turns stand still
  first_step : (s : St) (r : Rule s) (views' : List View) → turns views' ≡ turns s.views → total is_finished views' ≡ total is_finished s.views → Led starts workers task views'
      → ((j : ℕ) (v : View) → get_elem? views' j ≡ some v → K r.ticket j v v.turn) → Rule record { words = s.words; homes = s.homes; views = views' }
  first_step s r views' same as_past led each = record {
    ticket = r.ticket;
    word = r.word;
    wide = r.wide;
    deep = r.deep;
    small = r.small;
    ready = r.ready;
    each = each;
    apart = subst (λ (f : ℕ → Option ℕ). (i j k : ℕ) → f i ≡ Some k → f j ≡ Some k → i ≡ j) (sym same) r.apart;
    led = led;
    tickets = let old = r.tickets in omega arith;
    fresh = r.fresh;
    gone = subst (λ (f : ℕ → Option ℕ). (k : ℕ) → k < r.ticket → k < length starts → Gone starts workers task f s.homes k) (sym same) r.gone;
    away = subst (λ (f : ℕ → Option ℕ). (j k : ℕ) → f j ≡ Some k → get_elem? s.homes k ≡ some none) (sym same) r.away;
    story = subst (HasStory workers (length starts) r.ticket) (sym same) r.story;
  }

  pub splits : (id : ℕ) (v : View) (left n : ℕ) (late : Bool) → v.turn ≡ Lead left n late → 0 < left → Splits Rule id v (view_after_split v) (new_view v)
  splits id v left n late turn more_left s r at =
      let k = known starts workers task s r id v (Lead left n late) at turn in
      let l = led_is starts workers task s r id v left n late at turn in
      let w : View = view_after_split v in let o : View = new_view v in
      let turn' : w.turn ≡ Lead (left - 1) (n + 1) late = ap turn_after_split turn in
      let vs : List View = set s.views id w in
      let views' : List View = vs ++ o ∷ [] in
      let first : id ≡ 0 = l.0 in
      let moved_past = total_set is_finished s.views id v w at in
      let past_v : is_finished v.turn ≡ 0 = ap is_finished turn in let past_w : is_finished w.turn ≡ 0 = ap is_finished turn' in
      let moved_out = total_set is_unjoined s.views id v w at in
      let out_v : is_unjoined v.turn ≡ 0 = ap is_unjoined turn in let out_w : is_unjoined w.turn ≡ 0 = ap is_unjoined turn' in
      let pushed_past = total_push is_finished vs o in let pushed_out = total_push is_unjoined vs o in
      let long = length-set s.views id w in let longer = length-append vs (o ∷ []) in
      let counted = l.1 in let all = l.2 in
      first_step s r views'
      (turns_push vs o refl ∙ turns_still s.views id v w at (ap tile_of turn) (ap tile_of turn'))
      (omega arith)
      record {
        left = left - 1;
        n = n + 1;
        late = late;
        view = w;
        at = at_longer vs (o ∷ []) 0 w (subst (λ i. get_elem? (set s.views i w) 0 ≡ some w) (sym first) (set_here s.views 0 w (let b = below_at s.views id v at in omega arith)));
        turn = turn';
        are_unjoined = omega arith;
        all = omega arith;
      }
      (λ j u e. ⊎_elim
      (λ (p : get_elem? vs j ≡ some u). each_set starts workers task s.views id w r.ticket r.ticket (omega arith)
      (subst (K r.ticket id w) (sym turn') (record { has_starts = k.0.has_starts; has_workers = k.0.has_workers; has_task = k.0.has_task }, k.1, k.2, k.3)) r.each j u p)
      (λ (p : (o ≡ u) × (length vs ≤ j)). subst (λ (z : View). K r.ticket j z z.turn) p.0
      (record { has_starts = k.0.has_starts; has_workers = k.0.has_workers; has_task = k.0.has_task }, let b = below_at s.views id v at in let far = p.1 in omega arith, omega arith))
      (at_end vs o u j e))
    where
      at_end : (l : List View) (a b : View) (j : ℕ) → get_elem? (l ++ a ∷ []) j ≡ some b → (get_elem? l j ≡ some b) ⊎ ((a ≡ b) × (length l ≤ j))
      at_end [] a b zero e = inr (some-injective a b e, omega arith)
      at_end [] a b (suc j) e = absurd (some-ne-none b (sym e))
      at_end (x ∷ xs) a b zero e = inl e
      at_end (x ∷ xs) a b (suc j) e = ⊎_elim inl (λ (p : (a ≡ b) × (length xs ≤ j)). let h = p.1 in inr (p.0, omega arith)) (at_end xs a b j e)

  pub joins : (id : ℕ) (v : View) (other : ℕ) (w : View) (left n : ℕ) (late : Bool) → v.turn ≡ Lead left n late → w.turn ≡ Ended → Joins Rule id v other w (view_after_join v w) joined_view
  joins id v other w left n late turn ended s r at apart there =
      let k = known starts workers task s r id v (Lead left n late) at turn in
      let l = led_is starts workers task s r id v left n late at turn in
      let u : View = view_after_join v w in
      let turn' : u.turn ≡ Lead left (n - 1) true = ap turn_after_join turn in
      let vs : List View = set s.views id u in
      let views' : List View = set vs other joined_view in
      let first : id ≡ 0 = l.0 in
      let before : get_elem? s.views other ≡ some w = sym (set_else s.views id other u apart) ∙ there in
      let m = known starts workers task s r other w Ended before ended in
      let some_other : 0 < other = m.1 in
      let past : length starts ≤ r.ticket = m.3 in
      let moved_past = total_set is_finished s.views id v u at in let moved_past' = total_set is_finished vs other w joined_view there in
      let past_v : is_finished v.turn ≡ 0 = ap is_finished turn in let past_u : is_finished u.turn ≡ 0 = ap is_finished turn' in let past_w : is_finished w.turn ≡ 1 = ap is_finished ended in
      let moved_out = total_set is_unjoined s.views id v u at in let moved_out' = total_set is_unjoined vs other w joined_view there in
      let out_v : is_unjoined v.turn ≡ 0 = ap is_unjoined turn in let out_u : is_unjoined u.turn ≡ 0 = ap is_unjoined turn' in let out_w : is_unjoined w.turn ≡ 1 = ap is_unjoined ended in
      let long = length-set s.views id u in let longer = length-set vs other joined_view in
      let counted = l.1 in let all = l.2 in
      first_step s r views'
      (turns_still vs other w joined_view there (ap tile_of ended) refl ∙ turns_still s.views id v u at (ap tile_of turn) (ap tile_of turn'))
      (omega arith)
      record {
        left = left;
        n = n - 1;
        late = true;
        view = u;
        at = set_else vs other 0 joined_view (λ e. omega arith) ∙ subst (λ i. get_elem? (set s.views i u) 0 ≡ some u) (sym first) (set_here s.views 0 u (let b = below_at s.views id v at in omega arith));
        turn = turn';
        are_unjoined = omega arith;
        all = omega arith;
      }
      (each_set starts workers task vs other joined_view r.ticket r.ticket (omega arith) some_other
      (each_set starts workers task s.views id u r.ticket r.ticket (omega arith)
      (subst (K r.ticket id u) (sym turn') (record { has_starts = k.0.has_starts; has_workers = k.0.has_workers; has_task = k.0.has_task }, k.1, k.2, λ _. past)) r.each))
