-- Lists of hands and of slots that move.
use Rattle.std.proofs.Common.{◌≡◌, ◌≢◌, ℕ, zero, suc, ◌+◌, ◌-◌, ◌<◌, ◌≤◌, List, [], ◌∷◌, ◌++◌, map, length, take, get_or, set, Option, Some, option_to_list, All, refl, sym, ap, ◌∙◌, subst, arith}
use Rattle.std.proofs.lemmas.List.{take_more, map-append, get_or-set_other, get_or-set_same, get_or-map, get_or-take, length-take-le, take-take, same_lists}
use Rattle.std.specs.List.{take-map}
use mathlib.Core.Option.{some}
use mathlib.Core.Logic.{dite}
use native.Mathlib.Decide.{ℕ_discrete}
use lib.ListN.{get_elem?}

all_last : {A : Type 0} (P : A → Type 0) (ys : List A) (x : A) → All P (ys ++ x ∷ []) → P x
all_last P [] x h = h 0 x (omega arith)
all_last P (y ∷ ys) x h = all_last P ys x (λ k d l. h (suc k) d (omega arith))

-- what holds of all holds of the one that was popped
pub popped : {A : Type 0} (P : A → Type 0) (xs ys : List A) (o : Option A) (x : A) → All P xs → xs ≡ ys ++ option_to_list o → o ≡ Some x → P x
popped P xs ys o x h e is = all_last P ys x (subst (All P) (e ∙ ap (λ (z : Option _). ys ++ option_to_list z) is) h)

module _ {A : Type 0} where
  abbrev Same : ℕ → List A → List A → Type 0
  Same n old new = (k : ℕ) (d : A) → n ≤ k → get_or new k d ≡ get_or old k d

  abbrev somes : List A → List (Option A)
  somes xs = map Some xs

  -- one more slot is out
  pub out_more : (was now : List A) (i : ℕ) (x : A) (out : List (Option A)) → i < length was → out ≡ somes (take i was) → Same i was now → x ≡ get_or now i x → out ++ Some x ∷ [] ≡ somes (take (i + 1) was)
  out_more was now i x out l e same is =
      let at : x ≡ get_or was i x = is ∙ same i x (omega arith) in
      ap (λ (o : List (Option A)). o ++ Some x ∷ []) e ∙ (ap (λ (y : A). somes (take i was) ++ Some y ∷ []) at ∙ sym (ap somes (take_more was i x l) ∙ map-append Some (take i was) (get_or was i x ∷ [])))

  pub same_more : (was now : List A) (i : ℕ) (b : A) → Same i was now → Same (i + 1) was (set now i b)
  same_more was now i b same k d l = get_or-set_other now i k b d (λ e. omega arith) ∙ same k d (omega arith)

  -- one slot fewer is out
  pub back_rest : (was : List A) (n : ℕ) (out ys : List (Option A)) → out ≡ somes (take n was) → ys ≡ take (n - 1) out → ys ≡ somes (take (n - 1) was)
  back_rest was n out ys e is = is ∙ (ap (take (n - 1)) e ∙ (take-map Some (n - 1) (take n was) ∙ ap somes (take-take (n - 1) n was (omega arith))))

  some_at : (l : List A) (i : ℕ) → i < length l → (a : A) × ((d : A) → a ≡ get_or l i d)
  some_at [] i h = absurd (omega arith)
  some_at (x ∷ xs) zero h = (x, λ d. refl)
  some_at (x ∷ xs) (suc i) h = some_at xs i (omega arith)

  pub back_value : (was : List A) (n : ℕ) (out : List (Option A)) (e : Option A) → 0 < n → n ≤ length was → out ≡ somes (take n was)
      → (y : A) × (get_or out (n - 1) e ≡ Some y) × ((d : A) → y ≡ get_or was (n - 1) d)
  back_value was n out e any near are =
      let there = some_at was (n - 1) (omega arith) in let y : A = there.0 in let long = length-take-le n was near in (
        y,
        ap (λ (o : List (Option A)). get_or o (n - 1) e) are ∙ (get_or-map Some (take n was) (n - 1) y e (omega arith) ∙ ap (λ (a : A). Some a) (get_or-take n was (n - 1) y (omega arith) ∙ sym (there.1 y))),
        there.1,
      )

  pub same_back : (was now : List A) (n : ℕ) (y : A) → 0 < n → n ≤ length now → Same n was now → ((d : A) → y ≡ get_or was (n - 1) d) → Same (n - 1) was (set now (n - 1) y)
  same_back was now n y any near same is k d l = dite (ℕ_discrete k (n - 1))
      (λ (e : k ≡ n - 1). ap (λ (i : ℕ). get_or (set now (n - 1) y) i d) e ∙ (get_or-set_same now (n - 1) y d (omega arith) ∙ (is d ∙ ap (λ (i : ℕ). get_or was i d) (sym e))))
      (λ (e : k ≢ n - 1). get_or-set_other now (n - 1) k y d e ∙ same k d (omega arith))

  pub all_back : (was now : List A) → length now ≡ length was → Same 0 was now → now ≡ was
  all_back was now len same = same_lists now was len (λ k d l. same k d (omega arith))

  -- a result is back
  pub done_more : (items : List (Option A)) (now : List A) (i : ℕ) (y : A) → i < length now → get_elem? items i ≡ some (Some y)
      → ((k : ℕ) (d : A) → k < i → get_elem? items k ≡ some (Some (get_or now k d))) → (k : ℕ) (d : A) → k < i + 1 → get_elem? items k ≡ some (Some (get_or (set now i y) k d))
  done_more items now i y near at before k d l = dite (ℕ_discrete k i)
      (λ (e : k ≡ i). ap (get_elem? items) e ∙ (at ∙ ap (λ (z : A). some (Some z)) (sym (ap (λ (j : ℕ). get_or (set now i y) j d) e ∙ get_or-set_same now i y d near))))
      (λ (e : k ≢ i). before k d (omega arith) ∙ ap (λ (z : A). some (Some z)) (sym (get_or-set_other now i k y d e)))
