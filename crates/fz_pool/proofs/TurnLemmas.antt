-- Views of seats in a list, and the turns in them.
use Rattle.std.proofs.Common.{◌≡◌, ◌≢◌, ◌⊎◌, ℕ, zero, suc, ◌+◌, ◌<◌, ◌≤◌, Bool, List, [], ◌∷◌, ◌++◌, length, set, Option, Some, None, inl, inr, ⊎_elim, refl, sym, ap, ◌∙◌, arith}
use mathlib.Core.Option.{none, some, some-injective, some-ne-none}
use mathlib.Core.Option as maybe
use lib.ListN.{get_elem?}
use Rattle.atomic_table.proofs.Lists.{set_here, set_else}
use Rattle.fz_pool.specs.declared.slot.Slot.{Slot}
use Rattle.fz_pool.specs.declared.board.View.{View}
use Rattle.fz_pool.specs.declared.board.Turn.{Turn}
use Rattle.fz_pool.specs.declared.board.Turn.TheVariants.{Idle, Tile, Ended, Spent, Lead}
use Rattle.fz_pool.specs.WindowCore.{changed}
use Rattle.fz_pool.specs.Running.{is_finished, total, tile_of, tile_if, turns}
use Rattle.fz_pool.proofs.CoreLemmas.{either_way, changed_here, changed_else, no_tile, one_tile}

pub at_below : {A : Type 0} (l : List A) (i : ℕ) → i < length l → (a : A) × (get_elem? l i ≡ some a)
at_below [] i h = absurd (omega arith)
at_below (x ∷ xs) zero h = (x, refl)
at_below (x ∷ xs) (suc i) h = at_below xs i (omega arith)

pub below_at : {A : Type 0} (l : List A) (i : ℕ) (a : A) → get_elem? l i ≡ some a → i < length l
below_at [] i a e = absurd (some-ne-none a (sym e))
below_at (x ∷ xs) zero a e = omega arith
below_at (x ∷ xs) (suc i) a e = let h = below_at xs i a e in omega arith

pub total_set : (f : Turn → ℕ) (vs : List View) (j : ℕ) (v w : View) → get_elem? vs j ≡ some v → total f (set vs j w) + f v.turn ≡ total f vs + f w.turn
total_set f [] j v w e = absurd (some-ne-none v (sym e))
total_set f (x ∷ xs) zero v w e = let same : f x.turn ≡ f v.turn = ap (λ (z : View). f z.turn) (some-injective x v e) in omega arith
total_set f (x ∷ xs) (suc j) v w e = let h = total_set f xs j v w e in omega arith

pub total_push : (f : Turn → ℕ) (vs : List View) (v : View) → total f (vs ++ v ∷ []) ≡ total f vs + f v.turn
total_push f [] v = omega arith
total_push f (x ∷ xs) v = let h = total_push f xs v in omega arith

pub one_of : (f : Turn → ℕ) (vs : List View) (j : ℕ) (v : View) → get_elem? vs j ≡ some v → f v.turn ≤ total f vs
one_of f [] j v e = absurd (some-ne-none v (sym e))
one_of f (x ∷ xs) zero v e = let same : f x.turn ≡ f v.turn = ap (λ (z : View). f z.turn) (some-injective x v e) in omega arith
one_of f (x ∷ xs) (suc j) v e = let h = one_of f xs j v e in omega arith

past_one : (t : Turn) → is_finished t ≤ 1
past_one Idle = omega arith
past_one (Tile k) = omega arith
past_one Ended = omega arith
past_one Spent = omega arith
past_one (Lead left n late) = omega arith

pub few_past : (vs : List View) → total is_finished vs ≤ length vs
few_past [] = omega arith
few_past (v ∷ vs) = let a = past_one v.turn in let b = few_past vs in omega arith

-- turns

turn_of : (t : Turn) (k : ℕ) → tile_of t ≡ Some k → t ≡ Tile k
turn_of Idle k e = absurd (no_tile k e)
turn_of (Tile j) k e = ap (λ i. Tile i) (one_tile j k e)
turn_of Ended k e = absurd (no_tile k e)
turn_of Spent k e = absurd (no_tile k e)
turn_of (Lead left n late) k e = absurd (no_tile k e)

pub view_at : (o : maybe.Option View) (k : ℕ) → tile_if o ≡ Some k → (v : View) × (o ≡ some v) × (v.turn ≡ Tile k)
view_at none k e = absurd (no_tile k e)
view_at (some v) k e = (v, refl, turn_of v.turn k e)

pub turn_at : (vs : List View) (j : ℕ) (v : View) → get_elem? vs j ≡ some v → turns vs j ≡ tile_of v.turn
turn_at vs j v e = ap tile_if e

pub turns_set : (vs : List View) (id : ℕ) (w : View) → id < length vs → turns (set vs id w) ≡ changed (turns vs) id (tile_of w.turn)
turns_set vs id w l = λ i j. each j i
  where
    each : (j : ℕ) → turns (set vs id w) j ≡ changed (turns vs) id (tile_of w.turn) j
    each j = ⊎_elim
        (λ (e : j ≡ id). ap (turns (set vs id w)) e ∙ (ap tile_if (set_here vs id w l) ∙ (sym (changed_here (turns vs) id (tile_of w.turn)) ∙ ap (changed (turns vs) id (tile_of w.turn)) (sym e))))
        (λ (n : j ≢ id). ap tile_if (set_else vs id j w n) ∙ sym (changed_else (turns vs) id (tile_of w.turn) j n))
        (either_way j id)

-- a view that has no tile before and after changes no turn
pub turns_still : (vs : List View) (id : ℕ) (v w : View) → get_elem? vs id ≡ some v → tile_of v.turn ≡ None → tile_of w.turn ≡ None → turns (set vs id w) ≡ turns vs
turns_still vs id v w at a b = λ i j. each j i
  where
    each : (j : ℕ) → turns (set vs id w) j ≡ turns vs j
    each j = ⊎_elim
        (λ (e : j ≡ id). ap (turns (set vs id w)) e ∙ (ap tile_if (set_here vs id w (below_at vs id v at)) ∙ (b ∙ (sym a ∙ (sym (turn_at vs id v at) ∙ ap (turns vs) (sym e))))))
        (λ (n : j ≢ id). ap tile_if (set_else vs id j w n))
        (either_way j id)

turn_pushed : (vs : List View) (o : View) (j : ℕ) → tile_of o.turn ≡ None → turns (vs ++ o ∷ []) j ≡ turns vs j
turn_pushed [] o zero e = e
turn_pushed [] o (suc j) e = refl
turn_pushed (v ∷ vs) o zero e = refl
turn_pushed (v ∷ vs) o (suc j) e = turn_pushed vs o j e

pub turns_push : (vs : List View) (o : View) → tile_of o.turn ≡ None → turns (vs ++ o ∷ []) ≡ turns vs
turns_push vs o e = λ i j. turn_pushed vs o j e i

pub lead_parts : (a b : ℕ) (p : Bool) (c d : ℕ) (q : Bool) → Lead a b p ≡ Lead c d q → (a ≡ c) × (b ≡ d) × (p ≡ q)
lead_parts a b p c d q e = (cc, cc, cc)

-- who has a tile after the seat id has the turn o
has : (f : ℕ → Option ℕ) (id : ℕ) (o : Option ℕ) (j k : ℕ) → changed f id o j ≡ Some k → ((j ≡ id) × (o ≡ Some k)) ⊎ ((j ≢ id) × (f j ≡ Some k))
has f id o j k e = ⊎_elim
    (λ (h : j ≡ id). inl (h, sym (changed_here f id o) ∙ (ap (changed f id o) (sym h) ∙ e)))
    (λ (h : j ≢ id). inr (h, sym (changed_else f id o j h) ∙ e))
    (either_way j id)

-- the turns stay apart where the new one is nobody's
pub stay_apart : (f : ℕ → Option ℕ) (id : ℕ) (o : Option ℕ) → ((i j k : ℕ) → f i ≡ Some k → f j ≡ Some k → i ≡ j) → ((j k : ℕ) → o ≡ Some k → f j ≡ Some k → ⊥)
    → (i j k : ℕ) → changed f id o i ≡ Some k → changed f id o j ≡ Some k → i ≡ j
stay_apart f id o old new i j k a b = ⊎_elim
    (λ (p : (i ≡ id) × (o ≡ Some k)). ⊎_elim
    (λ (q : (j ≡ id) × (o ≡ Some k)). p.0 ∙ sym q.0)
    (λ (q : (j ≢ id) × (f j ≡ Some k)). absurd (new j k p.1 q.1))
    (has f id o j k b))
    (λ (p : (i ≢ id) × (f i ≡ Some k)). ⊎_elim
    (λ (q : (j ≡ id) × (o ≡ Some k)). absurd (new i k q.1 p.1))
    (λ (q : (j ≢ id) × (f j ≡ Some k)). old i j k p.1 q.1)
    (has f id o j k b))
    (has f id o i k a)

-- the slots of the turns are out, where the seat id has another turn and the others' slots do not change
pub stay_away : (f : ℕ → Option ℕ) (id : ℕ) (o : Option ℕ) (homes homes' : List (maybe.Option (Option Slot))) → ((j k : ℕ) → f j ≡ Some k → get_elem? homes k ≡ some none)
    → ((k : ℕ) → o ≡ Some k → get_elem? homes' k ≡ some none) → ((j k : ℕ) → j ≢ id → f j ≡ Some k → get_elem? homes' k ≡ get_elem? homes k)
    → (j k : ℕ) → changed f id o j ≡ Some k → get_elem? homes' k ≡ some none
stay_away f id o homes homes' old mine others j k e = ⊎_elim
    (λ (p : (j ≡ id) × (o ≡ Some k)). mine k p.1)
    (λ (p : (j ≢ id) × (f j ≡ Some k)). others j k p.0 p.1 ∙ old j k p.1)
    (has f id o j k e)
