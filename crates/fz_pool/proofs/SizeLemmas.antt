-- For callers: the lengths of the slots' buffers, and what is asked for them, after a fill, after a write to one slot and after a call.
use Rattle.std.proofs.Common.{◌≡◌, ◌≢◌, ℕ, zero, suc, ◌+◌, ◌*◌, ◌<◌, pos, List, ◌∷◌, map, length, replicate, sum, get_or, set, Some, slice_get, refl, sym, ap, ◌∙◌, subst, arith}
use Rattle.std.proofs.lemmas.List.{get_or-map, get_or-replicate, length-map, length-replicate}
use Rattle.std.proofs.lemmas.Option.{get_or_from_slice_get}
use Rattle.std.proofs.Math.Seq.{map-set_same}
use mathlib.Core.Logic.{dite}
use native.Mathlib.Decide.{ℕ_discrete}
use Rattle.fz_pool.specs.declared.slot.Slot.{Slot}
use Rattle.fz_pool.specs.Window.{fresh_slot, slot_bytes, slot_size, slot_sizes, asked_for}

-- the lengths in a slot for tiles of n pixels
abbrev pub fresh_size : ℕ → ℕ × ℕ
fresh_size n = (2 * n, 8 * n + 64)

pub size_fresh : (n : ℕ) → slot_size (fresh_slot n) ≡ fresh_size n
size_fresh n = let zero_byte : ℕ = 0 in λ i. (length-replicate (2 * n) (pos 0) i, length-replicate (8 * n + 64) zero_byte i)

pub sizes_fresh : (m n : ℕ) → slot_sizes (replicate m (fresh_slot n)) ≡ replicate m (fresh_size n)
sizes_fresh zero n = refl
sizes_fresh (suc m) n = λ i. size_fresh n i ∷ sizes_fresh m n i

-- slots of the same lengths are asked for alike
pub asked_same : (old new : List Slot) → slot_sizes new ≡ slot_sizes old → asked_for new ≡ asked_for old
asked_same old new e = ap (λ (l : List (ℕ × ℕ)). sum (map slot_bytes l)) e

module _ (slots : List Slot) (m : ℕ) (size : ℕ × ℕ) (sizes : slot_sizes slots ≡ replicate m size) where
  pub as_many : length slots ≡ m
  as_many = sym (length-map slots slot_size) ∙ (ap (λ (l : List (ℕ × ℕ)). length l) sizes ∙ length-replicate m size)

  pub size_at : (i : ℕ) (x : Slot) → i < m → slice_get slots i ≡ Some x → slot_size x ≡ size
  size_at i x near at = let long = as_many in
      ap slot_size (sym (get_or_from_slice_get slots i x x at)) ∙ (sym (get_or-map slot_size slots i x size (omega arith)) ∙ (ap (λ (l : List (ℕ × ℕ)). get_or l i size) sizes ∙ get_or-replicate m i size size near))

  -- a write that keeps the lengths in its slot keeps all
  pub sizes_set : (i : ℕ) (x y : Slot) → i < m → slice_get slots i ≡ Some x → slot_size y ≡ size → slot_sizes (set slots i y) ≡ slot_sizes slots
  sizes_set i x y near at is = map-set_same slot_size slots i y x (is ∙ (sym (size_at i x near at) ∙ ap slot_size (sym (get_or_from_slice_get slots i x x at))))

-- what holds of the elements below i, and of that at i, holds of those below i + 1
pub more_ready : {A : Type 0} (P : A → Type 0) (old new : List A) (i : ℕ) → ((d : A) → P (get_or new i d)) → ((k : ℕ) (d : A) → k ≢ i → get_or new k d ≡ get_or old k d)
    → ((k : ℕ) (d : A) → k < i → P (get_or old k d)) → (k : ℕ) (d : A) → k < i + 1 → P (get_or new k d)
more_ready P old new i here others before k d l = dite (ℕ_discrete k i)
    (λ (e : k ≡ i). subst (λ (j : ℕ). P (get_or new j d)) (sym e) (here d))
    (λ (n : k ≢ i). subst P (sym (others k d n)) (before k d (omega arith)))
