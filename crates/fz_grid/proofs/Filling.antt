-- A table of axes that a loop fills from axis 1 on.
use Rattle.std.proofs.Common.{◌≡◌, ℕ, ◌+◌, ◌<◌, ◌≤◌, List, [], ◌∷◌, ◌++◌, length, get_or, take, set, ap, subst, sym, ◌∙◌, arith, append_assoc, get_or-set_other, get_or-set_same, ◌≢◌, inl, inr}
use Rattle.std.proofs.lemmas.List.{take_more_set, append-nil}
use Rattle.std.proofs.lemmas.Bool.{cases_lt}
use Rattle.fz_grid.specs.Region.{AreSameFrom, IsZeroFrom}

-- the next entry is written
pub filled_more : (out : List ℕ) (i j v : ℕ) (rest all : List ℕ) → i < length out → i + 1 ≡ j → take i out ++ (v ∷ rest) ≡ all → take j (set out i v) ++ rest ≡ all
filled_more out i j v rest all inside next so_far =
    let step = take_more_set out i v inside in
    let at_next = ap (λ k. take k (set out i v) ++ rest) (sym next) in
    at_next ∙ (ap (λ l. l ++ rest) step ∙ (append_assoc (take i out) (v ∷ []) rest ∙ so_far))

-- all entries are written
pub filled_all : (out all : List ℕ) (n : ℕ) (rest : List ℕ) → rest ≡ [] → take n out ++ rest ≡ all → take n out ≡ all
filled_all out all n rest none so_far = sym (append-nil (take n out)) ∙ (ap (λ l. take n out ++ l) (sym none) ∙ so_far)

-- after what is written all is 0
pub zero_more : (out : List ℕ) (i v : ℕ) → IsZeroFrom i out → IsZeroFrom (i + 1) (set out i v)
zero_more out i v zeros k behind =
    let other : k ≢ i = omega arith in
    let within : i ≤ k = omega arith in
    get_or-set_other out i k v 0 other ∙ zeros k within

-- after what is written all is as before
pub same_more : (before out : List ℕ) (i v : ℕ) → AreSameFrom i out before → AreSameFrom (i + 1) (set out i v) before
same_more before out i v same k behind =
    let other : k ≢ i = omega arith in
    let within : i ≤ k = omega arith in
    get_or-set_other out i k v 0 other ∙ same k within

-- a box along the axes below i, within an array of these lengths
abbrev pub LiesWithin : List ℕ → List ℕ → List ℕ → ℕ → Type 0
LiesWithin array lo len i = (k : ℕ) → k < i → (1 ≤ get_or len k 0) × (get_or lo k 0 + get_or len k 0 ≤ get_or array k 0)

pub within_more : (array lo len : List ℕ) (i a b : ℕ) → i < length lo → i < length len → 1 ≤ b → a + b ≤ get_or array i 0 → LiesWithin array lo len i → LiesWithin array (set lo i a) (set len i b) (i + 1)
within_more array lo len i a b in_lo in_len some fits below k h =
    elim (cases_lt k i) [ inl earlier ↦ before earlier | inr later ↦ here later ]
  where
    before : k < i → (1 ≤ get_or (set len i b) k 0) × (get_or (set lo i a) k 0 + get_or (set len i b) k 0 ≤ get_or array k 0)
    before earlier =
        let other : k ≢ i = omega arith in
        let lo_same = get_or-set_other lo i k a 0 other in
        let len_same = get_or-set_other len i k b 0 other in
        (omega (arith, len_same, (below k earlier).0), omega (arith, lo_same, len_same, (below k earlier).1))

    here : i ≤ k → (1 ≤ get_or (set len i b) k 0) × (get_or (set lo i a) k 0 + get_or (set len i b) k 0 ≤ get_or array k 0)
    here later =
        let same : i ≡ k = omega arith in
        let lo_now = get_or-set_same lo i a 0 in_lo in
        let len_now = get_or-set_same len i b 0 in_len in
        let P : ℕ → Type 0 = λ j. (1 ≤ get_or (set len i b) j 0) × (get_or (set lo i a) j 0 + get_or (set len i b) j 0 ≤ get_or array j 0) in
        subst P same (omega (arith, len_now), omega (arith, lo_now, len_now))

-- what holds of each entry that is written
pub each_more : (P : ℕ → ℕ → Type 0) (xs : List ℕ) (i v : ℕ) → i < length xs → ((k : ℕ) → k < i → P k (get_or xs k 0)) → P i v → (k : ℕ) → k < i + 1 → P k (get_or (set xs i v) k 0)
each_more P xs i v inside before here k h = elim (cases_lt k i) [ inl earlier ↦ kept earlier | inr later ↦ new later ]
  where
    kept : k < i → P k (get_or (set xs i v) k 0)
    kept earlier =
        let other : k ≢ i = omega arith in
        subst (P k) (sym (get_or-set_other xs i k v 0 other)) (before k earlier)

    new : i ≤ k → P k (get_or (set xs i v) k 0)
    new later =
        let same : i ≡ k = omega arith in
        subst (λ j. P j (get_or (set xs i v) j 0)) same (subst (P i) (sym (get_or-set_same xs i v 0 inside)) here)
