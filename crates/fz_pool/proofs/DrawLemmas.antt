-- A draw keeps the rule of the running window.
use Rattle.std.proofs.Common.{◌≡◌, ◌≢◌, ℕ, ◌+◌, ◌%◌, ◌<◌, ◌≤◌, List, length, get_or, set, Option, Some, None, inl, ⊎_elim, refl, sym, ap, ◌∙◌, subst, arith, length-set}
use mathlib.Core.Option.{none, some}
use mathlib.Core.Option as maybe
use mathlib.Core.Logic.{dite}
use native.Mathlib.Decide.{dec_le}
use lib.ListN.{get_elem?}
use Rattle.atomic_table.specs.Table.{State, step, Act, keeps, takes, stepped, carried_after, Allows}
use Rattle.atomic_table.proofs.Lists.{set_here, set_else}
use Rattle.fz_pool.specs.declared.task.Task.{Task}
use Rattle.fz_pool.specs.declared.slot.Slot.{Slot}
use Rattle.fz_pool.specs.declared.board.View.{View}
use Rattle.fz_pool.specs.declared.board.Turn.TheVariants.{Idle, Tile, Ended}
use Rattle.fz_pool.specs.Slots.{IsReady}
use Rattle.fz_pool.specs.Running.{is_unjoined, is_finished, tile_of, turns, Kept, SeatState, TellsDraw}
use Rattle.fz_pool.proofs.CoreLemmas.{either_way, changed_here, no_tile, one_tile}
use Rattle.fz_pool.proofs.StoryLemmas.{draws_tile, draws_none}
use Rattle.fz_pool.proofs.TurnLemmas.{at_below, total_set, few_past, turn_at, stay_apart, stay_away}
use Rattle.fz_pool.proofs.KeptLemmas.{known, below, near, worker_step, stays_gone, few}

module _ (starts : List Slot) (workers : ℕ) (task : Task) where
  abbrev St : Type 0
  St = State (Option Slot) View

  abbrev Homes : Type 0
  Homes = List (maybe.Option (Option Slot))

  abbrev Rule : State (Option Slot) View → Type 0
  Rule = Kept starts workers task

  -- a draw of a tile
  draw_tile : (slots id x : ℕ) (me : SeatState) (s : St) (r : Rule s) → me.0.turn ≡ Idle → length s.homes ≡ slots → get_elem? s.views id ≡ some me.0 → x ≡ r.ticket + 1 → r.ticket < length starts
      → (w : View) × (a : Act (Option Slot)) × Rattle.atomic_table.specs.Table.Valid s.homes me.1 a × Rule (stepped s 0 x id me.1 w a) × TellsDraw (step slots 0 1 0 none) me r.ticket (w, carried_after me.1 a)
  draw_tile slots id x me s r idle deep at is_word left =
      let t : ℕ = r.ticket in
      let n = known starts workers task s r id me.0 Idle at idle in
      let there = at_below starts t left in
      let y : Slot = there.0 in
      let w : View = record me.0 { turn = Tile t; seen = t + 1 } in
      let f : ℕ → Option ℕ = turns s.views in
      let free : f id ≡ None = turn_at s.views id me.0 at ∙ ap tile_of idle in
      let fresh_one = r.fresh t y (omega arith) there.1 in
      let long : t < length s.homes = let d = r.deep in omega arith in
      let homes' : Homes = set s.homes t none in
      let moved = total_set is_finished s.views id me.0 w at in
      let was : is_finished me.0.turn ≡ 0 = ap is_finished idle in
      let some_id : 0 < id = n.1 in
      let count = few starts workers task s r slots me.0 deep n.0 in (
        w,
        takes t (Some y),
        fresh_one,
        worker_step starts workers task s r id (t + 1) x me.0 w homes' at some_id (ap is_unjoined (sym idle)) is_word (omega arith)
            (record { has_starts = n.0.has_starts; has_workers = n.0.has_workers; has_task = n.0.has_task }, some_id, omega arith, omega arith, left)
            (length-set s.homes t none)
            (stay_apart f id (Some t) r.apart (λ j k e g. let l = (below starts workers task s r j k g).0 in let e' : t ≡ k = one_tile t k e in omega arith))
            (let old = r.tickets in omega arith)
            (λ k z l e. set_else s.homes t k none (λ q. omega arith) ∙ r.fresh k z (omega arith) e)
            (λ k l l'. ⊎_elim
            (λ (e : k ≡ t). inl (id, changed_here f id (Some t) ∙ ap Some (sym e)))
            (λ (e : k ≢ t). stays_gone starts workers task f id (Some t) s.homes homes' k (λ g. no_tile k (sym free ∙ g)) (set_else s.homes t k none e) (r.gone k (omega arith) l'))
            (either_way k t))
            (stay_away f id (Some t) s.homes homes' r.away (λ k e. ap (get_elem? homes') (sym (one_tile t k e)) ∙ set_here s.homes t none long)
            (λ j k _ g. let l = (below starts workers task s r j k g).0 in set_else s.homes t k none (λ q. omega arith)))
            (draws_tile workers (length starts) t id f r.story some_id (near starts workers task s r id me.0 at) free (λ j k g. (below starts workers task s r j k g).0) left),
        record {
          slots = count.0;
          few = count.1;
          seen = n.2;
          tile = λ l. record {
            view = refl;
            slot = y;
            at = ap (λ (l : List Slot). get_elem? l t) n.0.has_starts ∙ there.1;
            ready = subst (λ b. IsReady b y) (sym n.0.has_task) (r.ready t y there.1);
            held = refl;
          };
          late = λ l. let c = count.0 in let d = r.deep in absurd (omega arith);
        },
      )

  -- a draw that found no tile left
  draw_none : (slots id x : ℕ) (me : SeatState) (s : St) (r : Rule s) → me.0.turn ≡ Idle → length s.homes ≡ slots → get_elem? s.views id ≡ some me.0 → x ≡ r.ticket + 1 → length starts ≤ r.ticket
      → (w : View) × (a : Act (Option Slot)) × Rattle.atomic_table.specs.Table.Valid s.homes me.1 a × Rule (stepped s 0 x id me.1 w a) × TellsDraw (step slots 0 1 0 none) me r.ticket (w, carried_after me.1 a)
  draw_none slots id x me s r idle deep at is_word late =
      let t : ℕ = r.ticket in
      let n = known starts workers task s r id me.0 Idle at idle in
      let w : View = record me.0 { turn = Ended; seen = t + 1 } in
      let f : ℕ → Option ℕ = turns s.views in
      let free : f id ≡ None = turn_at s.views id me.0 at ∙ ap tile_of idle in
      let moved = total_set is_finished s.views id me.0 w at in
      let was : is_finished me.0.turn ≡ 0 = ap is_finished idle in
      let some_id : 0 < id = n.1 in
      let count = few starts workers task s r slots me.0 deep n.0 in (
        w,
        keeps,
        tt,
        worker_step starts workers task s r id (t + 1) x me.0 w s.homes at some_id (ap is_unjoined (sym idle)) is_word (omega arith)
            (record { has_starts = n.0.has_starts; has_workers = n.0.has_workers; has_task = n.0.has_task }, some_id, omega arith, omega arith)
            refl
            (stay_apart f id None r.apart (λ j k e g. no_tile k e))
            (let old = r.tickets in omega arith)
            (λ k z l e. r.fresh k z (omega arith) e)
            (λ k l l'. stays_gone starts workers task f id None s.homes s.homes k (λ g. no_tile k (sym free ∙ g)) refl (r.gone k (omega arith) l'))
            (stay_away f id None s.homes s.homes r.away (λ k e. absurd (no_tile k e)) (λ j k _ _. refl))
            (draws_none workers (length starts) t id f r.story some_id (near starts workers task s r id me.0 at) free late),
        record {
          slots = count.0;
          few = count.1;
          seen = n.2;
          tile = λ l. let c = count.0 in let d = r.deep in absurd (omega arith);
          late = λ l. record { view = refl; held = refl };
        },
      )

  pub draws : (slots id : ℕ) (me : SeatState) → me.0.turn ≡ Idle → Allows Rule slots id me 0 (λ n. (n + 1) % 18446744073709551616) (TellsDraw (step slots 0 1 0 none) me)
  draws slots id me idle s r deep at small_word =
      let n : ℕ = get_or s.words 0 0 in let is : n ≡ r.ticket = r.word in
      let tickets = r.tickets in let few_views = few_past s.views in let all = r.led.all in let small = r.small in
      let grows : (n + 1) % 18446744073709551616 ≡ r.ticket + 1 = omega arith in
      subst (λ (m : ℕ). (w : View) × (a : Act (Option Slot)) × Rattle.atomic_table.specs.Table.Valid s.homes me.1 a
      × Rule (stepped s 0 ((n + 1) % 18446744073709551616) id me.1 w a) × TellsDraw (step slots 0 1 0 none) me m (w, carried_after me.1 a)) (sym is)
      (dite (dec_le (length starts) r.ticket)
      (λ (l : length starts ≤ r.ticket). draw_none slots id ((n + 1) % 18446744073709551616) me s r idle deep at grows l)
      (λ (l : ¬ (length starts ≤ r.ticket)). draw_tile slots id ((n + 1) % 18446744073709551616) me s r idle deep at grows (omega arith)))
