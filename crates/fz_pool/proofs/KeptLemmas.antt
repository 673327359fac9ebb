-- What each step of the running window needs of the rule.
use Rattle.std.proofs.Common.{◌≡◌, ◌≢◌, ℕ, ◌+◌, ◌<◌, ◌≤◌, Bool, List, length, set, Option, Some, inl, inr, ⊎_elim, sym, ap, ◌∙◌, subst, arith, length-set, get_or-set_same}
use mathlib.Core.Option.{none, some, some-injective}
use mathlib.Core.Option as maybe
use lib.ListN.{get_elem?}
use Rattle.atomic_table.specs.Table.{State}
use Rattle.atomic_table.proofs.Lists.{at_set, set_else}
use Rattle.fz_pool.specs.declared.task.Task.{Task}
use Rattle.fz_pool.specs.declared.slot.Slot.{Slot}
use Rattle.fz_pool.specs.declared.board.View.{View}
use Rattle.fz_pool.specs.declared.board.Turn.{Turn}
use Rattle.fz_pool.specs.declared.board.Turn.TheVariants.{Idle, Tile, Ended, Spent, Lead}
use Rattle.fz_pool.specs.Slots.{IsResult}
use Rattle.fz_pool.specs.WindowCore.{changed}
use Rattle.fz_pool.specs.Running.{is_unjoined, is_finished, total, tile_of, turns, HasStory, HasKey, Knows, Gone, Led, Kept}
use Rattle.fz_pool.proofs.CoreLemmas.{changed_else}
use Rattle.fz_pool.proofs.TurnLemmas.{below_at, total_set, view_at, turns_set, lead_parts}

module _ (starts : List Slot) (workers : ℕ) (task : Task) where
  abbrev St : Type 0
  St = State (Option Slot) View

  abbrev Homes : Type 0
  Homes = List (maybe.Option (Option Slot))

  abbrev Rule : State (Option Slot) View → Type 0
  Rule = Kept starts workers task

  abbrev K : ℕ → ℕ → View → Turn → Type 0
  K = Knows starts workers task

  abbrev Key : View → Type 0
  Key = HasKey starts workers task

  later : (t t' j : ℕ) (v : View) (u : Turn) → t ≤ t' → K t j v u → K t' j v u
  later t t' j v Idle l k = (k.0, k.1, omega arith)
  later t t' j v (Tile n) l k = (k.0, k.1, omega arith, omega arith, k.4)
  later t t' j v Ended l k = (k.0, k.1, omega arith, omega arith)
  later t t' j v Spent l k = k
  later t t' j v (Lead left n late) l k = (k.0, k.1, omega arith, λ e. let old : length starts ≤ t = k.3 e in omega arith)

  pub each_set : (vs : List View) (id : ℕ) (w : View) (t t' : ℕ) → t ≤ t' → K t' id w w.turn → ((j : ℕ) (v : View) → get_elem? vs j ≡ some v → K t j v v.turn)
      → (j : ℕ) (v : View) → get_elem? (set vs id w) j ≡ some v → K t' j v v.turn
  each_set vs id w t t' l mine old j v e = ⊎_elim
      (λ (p : (j ≡ id) × (w ≡ v)). subst (λ (x : ℕ × View). K t' x.0 x.1 x.1.turn) (λ i. (sym p.0 i, p.1 i)) mine)
      (λ (p : (j ≢ id) × (get_elem? vs j ≡ some v)). later t t' j v v.turn l (old j v p.1))
      (at_set vs id j w v e)

  pub led_set : (vs : List View) (id : ℕ) (v w : View) → get_elem? vs id ≡ some v → 0 < id → is_unjoined w.turn ≡ is_unjoined v.turn → Led starts workers task vs → Led starts workers task (set vs id w)
  led_set vs id v w at some_id same l = let moved = total_set is_unjoined vs id v w at in record {
    left = l.left;
    n = l.n;
    late = l.late;
    view = l.view;
    at = set_else vs id 0 w (λ e. omega arith) ∙ l.at;
    turn = l.turn;
    are_unjoined = let e = l.are_unjoined in omega arith;
    all = ap (λ (x : ℕ). l.left + x) (length-set vs id w) ∙ l.all;
  }

  pub known : (s : St) (r : Rule s) (id : ℕ) (v : View) (u : Turn) → get_elem? s.views id ≡ some v → v.turn ≡ u → K r.ticket id v u
  known s r id v u at e = subst (K r.ticket id v) e (r.each id v at)

  -- a tile that is a turn was drawn
  pub below : (s : St) (r : Rule s) (j k : ℕ) → turns s.views j ≡ Some k → (k < r.ticket) × (k < length starts)
  below s r j k e = let p = view_at (get_elem? s.views j) k e in let n = known s r j p.0 (Tile k) p.1 p.2 in (n.3, n.4)

  -- the number of a seat
  pub near : (s : St) (r : Rule s) (id : ℕ) (v : View) → get_elem? s.views id ≡ some v → id < workers + 1
  near s r id v at = let l = below_at s.views id v at in let all = r.led.all in omega arith

  -- a step of one seat at its own view
  pub worker_step : (s : St) (r : Rule s) (id t' x : ℕ) (v w : View) (homes' : Homes) → get_elem? s.views id ≡ some v → 0 < id → is_unjoined w.turn ≡ is_unjoined v.turn → x ≡ t' → r.ticket ≤ t'
      → K t' id w w.turn → length homes' ≡ length s.homes
      → ((i j k : ℕ) → changed (turns s.views) id (tile_of w.turn) i ≡ Some k → changed (turns s.views) id (tile_of w.turn) j ≡ Some k → i ≡ j)
      → t' ≤ length starts + total is_finished (set s.views id w)
      → ((k : ℕ) (y : Slot) → t' ≤ k → get_elem? starts k ≡ some y → get_elem? homes' k ≡ some (some (Some y)))
      → ((k : ℕ) → k < t' → k < length starts → Gone starts workers task (changed (turns s.views) id (tile_of w.turn)) homes' k)
      → ((j k : ℕ) → changed (turns s.views) id (tile_of w.turn) j ≡ Some k → get_elem? homes' k ≡ some none)
      → HasStory workers (length starts) t' (changed (turns s.views) id (tile_of w.turn))
      → Rule record { words = set s.words 0 x; homes = homes'; views = set s.views id w }
  worker_step s r id t' x v w homes' at some_id same is_word later_t mine as_deep apart tickets fresh gone away story =
      let e : turns (set s.views id w) ≡ changed (turns s.views) id (tile_of w.turn) = turns_set s.views id w (below_at s.views id v at) in
      let wide = r.wide in
      record {
        ticket = t';
        word = get_or-set_same s.words 0 x 0 (omega arith) ∙ is_word;
        wide = length-set s.words 0 x ∙ r.wide;
        deep = as_deep ∙ r.deep;
        small = r.small;
        ready = r.ready;
        each = each_set s.views id w r.ticket t' later_t mine r.each;
        apart = subst (λ (f : ℕ → Option ℕ). (i j k : ℕ) → f i ≡ Some k → f j ≡ Some k → i ≡ j) (sym e) apart;
        led = led_set s.views id v w at some_id same r.led;
        tickets = tickets;
        fresh = fresh;
        gone = subst (λ (f : ℕ → Option ℕ). (k : ℕ) → k < t' → k < length starts → Gone starts workers task f homes' k) (sym e) gone;
        away = subst (λ (f : ℕ → Option ℕ). (j k : ℕ) → f j ≡ Some k → get_elem? homes' k ≡ some none) (sym e) away;
        story = subst (HasStory workers (length starts) t') (sym e) story;
      }

  -- a tile that was gone stays so, where the seat id has another turn and its slot does not change
  pub stays_gone : (f : ℕ → Option ℕ) (id : ℕ) (o : Option ℕ) (homes homes' : Homes) (k : ℕ) → ¬ (f id ≡ Some k) → get_elem? homes' k ≡ get_elem? homes k
      → Gone starts workers task f homes k → Gone starts workers task (changed f id o) homes' k
  stays_gone f id o homes homes' k not_mine same g = ⊎_elim
      (λ (p : (j : ℕ) × (f j ≡ Some k)). inl (p.0, changed_else f id o p.0 (λ e. not_mine (ap f (sym e) ∙ p.1)) ∙ p.1))
      (λ (p : (x y : Slot) × (get_elem? starts k ≡ some x) × (get_elem? homes k ≡ some (some (Some y))) × IsResult task x y). inr (p.0, p.1, p.2, same ∙ p.3, p.4))
      g

  -- the number of slots that a seat knows of
  pub few : (s : St) (r : Rule s) (slots : ℕ) (v : View) → length s.homes ≡ slots → Key v → (slots ≡ length v.starts) × (slots ≤ 128)
  few s r slots v deep key = let e : length v.starts ≡ length starts = ap (λ (l : List Slot). length l) key.has_starts in let d = r.deep in let n = r.small in (omega arith, omega arith)

  -- what the first seat's view says is so
  pub led_is : (s : St) (r : Rule s) (id : ℕ) (v : View) (left n : ℕ) (late : Bool) → get_elem? s.views id ≡ some v → v.turn ≡ Lead left n late
      → (id ≡ 0) × (n ≡ total is_unjoined s.views) × (left + length s.views ≡ workers + 1)
  led_is s r id v left n late at turn =
      let k = known s r id v (Lead left n late) at turn in
      let l = r.led in
      let here : get_elem? s.views 0 ≡ some v = ap (get_elem? s.views) (sym k.1) ∙ at in
      let same : l.view ≡ v = some-injective l.view v (sym l.at ∙ here) in
      let parts = lead_parts l.left l.n l.late left n late (sym l.turn ∙ (ap (λ (z : View). z.turn) same ∙ turn)) in
      (k.1, sym parts.1 ∙ l.are_unjoined, ap (λ (z : ℕ). z + length s.views) (sym parts.0) ∙ l.all)
