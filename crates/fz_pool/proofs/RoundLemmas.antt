-- The first slots of a window, as the rule and as callers see them.
use Rattle.std.proofs.Common.{◌≡◌, ℕ, zero, suc, ◌<◌, ◌≤◌, List, [], ◌∷◌, map, length, take, get_or, Option, Some, refl, sym, ap, ◌∙◌, subst, arith}
use Rattle.std.proofs.lemmas.List.{length-take, length-map, get_or-map, same_lists}
use mathlib.Core.Logic.{dite}
use native.Mathlib.Decide.{dec_le}
use mathlib.Core.Option.{some, some-injective, some-ne-none}
use lib.ListN.{get_elem?}
use Rattle.fz_pool.specs.declared.task.Task.{Task}
use Rattle.fz_pool.specs.declared.task.Task.TheVariants.{Encode, Decode}
use Rattle.fz_pool.specs.declared.slot.Slot.{Slot}
use Rattle.fz_pool.specs.declared.board.TableKey.{TableKey}
use Rattle.fz_pool.specs.Slots.{IsReady, IsResult}
use Rattle.fz_pool.specs.Running.{starts_of}
use Rattle.fz_pool.specs.Window.{slot_size, slot_sizes}
use Rattle.fz_pool.specs.Calls.{AreReady, AreResults, AreSameFrom}

module _ {A : Type 0} where
  pub at_take : (l : List A) (n k : ℕ) (d : A) → k < n → k < length l → get_elem? (take n l) k ≡ some (get_or l k d)
  at_take [] n k d a b = absurd (omega arith)
  at_take (x ∷ xs) zero k d a b = absurd (omega arith)
  at_take (x ∷ xs) (suc n) zero d a b = refl
  at_take (x ∷ xs) (suc n) (suc k) d a b = at_take xs n k d (omega arith) (omega arith)

  in_take : (l : List A) (n k : ℕ) → k < n → k < length l → (x : A) × (get_elem? (take n l) k ≡ some x)
  in_take [] n k a b = absurd (omega arith)
  in_take (x ∷ xs) zero k a b = absurd (omega arith)
  in_take (x ∷ xs) (suc n) zero a b = (x, refl)
  in_take (x ∷ xs) (suc n) (suc k) a b = in_take xs n k (omega arith) (omega arith)

  pub take_at : (l : List A) (n k : ℕ) (x : A) → get_elem? (take n l) k ≡ some x → (k < n) × (k < length l) × ((d : A) → get_or l k d ≡ x)
  take_at [] zero k x e = absurd (some-ne-none x (sym e))
  take_at [] (suc n) k x e = absurd (some-ne-none x (sym e))
  take_at (y ∷ ys) zero k x e = absurd (some-ne-none x (sym e))
  take_at (y ∷ ys) (suc n) zero x e = (omega arith, omega arith, λ d. some-injective y x e)
  take_at (y ∷ ys) (suc n) (suc k) x e = let p = take_at ys n k x e in (omega arith, omega arith, p.2)

one_value : (x y : Option Slot) → some x ≡ some y → x ≡ y
one_value x y e = cc

inner : (x y : Slot) → Some x ≡ Some y → x ≡ y
inner x y e = cc

pub outs_are : (out : List (Option Slot)) (count : ℕ) (was now : List Slot) → out ≡ map Some (take count now) → was ≡ now → out ≡ map Some (take count was)
outs_are out count was now e same = subst (λ (l : List Slot). out ≡ map Some (take count l)) (sym same) e

pub ready_all : (task : Task) (count : ℕ) (l : List Slot) → AreReady task count l → (k : ℕ) (x : Slot) → get_elem? (take count l) k ≡ some x → IsReady task x
ready_all task count l ready k x e = let p = take_at l count k x e in subst (IsReady task) (p.2 x) (ready k x p.0)

pub few_all : {A : Type 0} (count : ℕ) (l : List A) → count ≤ 128 → length (take count l) ≤ 128
few_all count l h = let e = length-take count l in omega arith

pub long_all : {A : Type 0} (count : ℕ) (l : List A) → count ≤ length l → length (take count l) ≡ count
long_all count l h = let e = length-take count l in omega arith

module _ (task : Task) (count : ℕ) (old new : List Slot) (items : List (Option Slot)) (near : count ≤ length old) where
  abbrev pub Have : Type 0
  Have = (k : ℕ) (x : Slot) → get_elem? (take count old) k ≡ some x → (y : Slot) × (get_elem? items k ≡ some (Some y)) × IsResult task x y

  pub values_all : Have → (k : ℕ) → k < count → (y : Slot) × (get_elem? items k ≡ some (Some y))
  values_all have k l = let q = in_take old count k l (omega arith) in let p = have k q.0 q.1 in (p.0, p.1)

  pub results_all : Have → ((k : ℕ) (d : Slot) → k < count → get_elem? items k ≡ some (Some (get_or new k d))) → AreResults task count old new
  results_all have back k d l = let p = have k (get_or old k d) (at_take old count k d l (omega arith)) in
      subst (λ (y : Slot). IsResult task (get_or old k d) y) (inner p.0 (get_or new k d) (one_value (Some p.0) (Some (get_or new k d)) (sym p.1 ∙ back k d l))) p.2

-- the rule's results are those of the slots
pub have_all : (given key : TableKey) (old : List Slot) (items : List (Option Slot)) (near : given.count ≤ length old) → key ≡ given → given.slots.value.items ≡ old
    → ((k : ℕ) (x : Slot) → get_elem? (starts_of key) k ≡ some x → (y : Slot) × (get_elem? items k ≡ some (Some y)) × IsResult given.task x y) → Have given.task given.count old old items near
have_all given key old items near same was r k x e = r k x (ap (λ (l : List Slot). get_elem? l k) (ap starts_of same ∙ ap (λ (l : List Slot). take given.count l) was) ∙ e)

pub same_all : (count : ℕ) (old mid new : List Slot) → AreSameFrom count old mid → AreSameFrom count mid new → AreSameFrom count old new
same_all count old mid new a b k d l = b k d l ∙ a k d l

pub same_size : (task : Task) (x y : Slot) → IsResult task x y → slot_size y ≡ slot_size x
same_size Encode x y r = λ i. (length (r.numbers i), r.size i)
same_size Decode x y r = λ i. (r.size i, length (r.code i))

-- the buffers keep their lengths
pub sizes_all : (task : Task) (count : ℕ) (old new : List Slot) → length new ≡ length old → AreResults task count old new → AreSameFrom count old new → slot_sizes new ≡ slot_sizes old
sizes_all task count old new len results same =
    same_lists (slot_sizes new) (slot_sizes old) (length-map new slot_size ∙ (len ∙ sym (length-map old slot_size))) each
  where
    first : (l : List Slot) (k : ℕ) → k < length l → Slot
    first [] k h = absurd (omega arith)
    first (x ∷ xs) k h = x

    sized : (k : ℕ) (x : Slot) → k < length new → slot_size (get_or new k x) ≡ slot_size (get_or old k x)
    sized k x near = dite (dec_le count k) (λ (h : count ≤ k). ap slot_size (same k x h)) (λ (h : ¬ (count ≤ k)). same_size task (get_or old k x) (get_or new k x) (results k x (omega arith)))

    each : (k : ℕ) (d : ℕ × ℕ) → k < length (slot_sizes new) → get_or (slot_sizes new) k d ≡ get_or (slot_sizes old) k d
    each k d l = let long = length-map new slot_size in let near : k < length new = omega arith in let x : Slot = first new k near in
        get_or-map slot_size new k x d near ∙ (sized k x near ∙ sym (get_or-map slot_size old k x d (omega arith)))
