-- A slot that goes home keeps the rule of the running window.
use Rattle.std.proofs.Common.{◌≡◌, ◌≢◌, ℕ, ◌<◌, List, [], ◌∷◌, length, get_or, set, Option, Some, None, inr, ⊎_elim, refl, sym, ap, ◌∙◌, subst, arith, length-set}
use mathlib.Core.Option.{none, some}
use mathlib.Core.Option as maybe
use lib.ListN.{get_elem?}
use Rattle.atomic_table.specs.Table.{State, step, gives, stepped, Allows}
use Rattle.atomic_table.proofs.Lists.{set_here, set_else}
use Rattle.fz_pool.specs.declared.task.Task.{Task}
use Rattle.fz_pool.specs.declared.slot.Slot.{Slot}
use Rattle.fz_pool.specs.declared.board.View.{View}
use Rattle.fz_pool.specs.declared.board.Turn.TheVariants.{Idle, Tile}
use Rattle.fz_pool.specs.Slots.{IsResult}
use Rattle.fz_pool.specs.Running.{turned_to, is_unjoined, is_finished, tile_of, turns, Kept, SeatState, TellsHome}
use Rattle.fz_pool.proofs.CoreLemmas.{either_way, no_tile, one_tile}
use Rattle.fz_pool.proofs.StoryLemmas.{puts_tile}
use Rattle.fz_pool.proofs.TurnLemmas.{total_set, turn_at, stay_apart, stay_away}
use Rattle.fz_pool.proofs.KeptLemmas.{known, near, worker_step, stays_gone}

module _ (starts : List Slot) (workers : ℕ) (task : Task) where
  abbrev Homes : Type 0
  Homes = List (maybe.Option (Option Slot))

  abbrev Rule : State (Option Slot) View → Type 0
  Rule = Kept starts workers task

  -- a slot goes home with its result
  pub homes : (slots id k : ℕ) (me : SeatState) (x y : Slot) → me.0.turn ≡ Tile k → get_elem? me.0.starts k ≡ some x → IsResult me.0.task x y → me.1 ≡ (k, Some y) ∷ []
      → Allows Rule slots id me 0 (λ n. n) (TellsHome (step slots 0 0 0 none) me)
  homes slots id k me x y turn there result held s r deep at small_word =
      let t : ℕ = r.ticket in
      let n = known starts workers task s r id me.0 (Tile k) at turn in
      let w : View = turned_to me.0 Idle in
      let f : ℕ → Option ℕ = turns s.views in
      let mine : f id ≡ Some k = turn_at s.views id me.0 at ∙ ap tile_of turn in
      let some_id : 0 < id = n.1 in
      let drawn_k : k < t = n.3 in
      let inside : k < length starts = n.4 in
      let long : k < length s.homes = let d = r.deep in omega arith in
      let homes' : Homes = set s.homes k (some (Some y)) in
      let moved = total_set is_finished s.views id me.0 w at in
      let was : is_finished me.0.turn ≡ 0 = ap is_finished turn in
      let start_is : get_elem? starts k ≡ some x = ap (λ (l : List Slot). get_elem? l k) (sym n.0.has_starts) ∙ there in
      let result_is : IsResult task x y = subst (λ b. IsResult b x y) n.0.has_task result in (
        w,
        gives,
        tt,
        subst (λ (c : List (ℕ × Option Slot)). Rule (stepped s 0 (get_or s.words 0 0) id c w gives)) (sym held)
            (worker_step starts workers task s r id t (get_or s.words 0 0) me.0 w homes' at some_id (ap is_unjoined (sym turn)) r.word (omega arith)
            (record { has_starts = n.0.has_starts; has_workers = n.0.has_workers; has_task = n.0.has_task }, some_id, n.2)
            (length-set s.homes k (some (Some y)))
            (stay_apart f id None r.apart (λ j m e g. no_tile m e))
            (let old = r.tickets in omega arith)
            (λ j z l e. set_else s.homes k j (some (Some y)) (λ q. omega arith) ∙ r.fresh j z l e)
            (λ j l l'. ⊎_elim
            (λ (e : j ≡ k). inr (x, y, ap (get_elem? starts) e ∙ start_is, ap (get_elem? homes') e ∙ set_here s.homes k (some (Some y)) long, result_is))
            (λ (e : j ≢ k). stays_gone starts workers task f id None s.homes homes' j (λ g. e (one_tile j k (sym g ∙ mine))) (set_else s.homes k j (some (Some y)) e) (r.gone j l l'))
            (either_way j k))
            (stay_away f id None s.homes homes' r.away (λ j e. absurd (no_tile j e))
            (λ j m other g. set_else s.homes k m (some (Some y)) (λ (q : m ≡ k). other (r.apart j id k (g ∙ ap Some q) mine))))
            (puts_tile workers (length starts) t id k f r.story some_id (near starts workers task s r id me.0 at) mine drawn_k r.apart)),
        refl,
      )
