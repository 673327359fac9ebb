-- Lists that are made of a range of numbers: what is found in them, and which of their elements are kept.
use Rattle.std.proofs.Common.{◌≡◌, ℕ, zero, suc, ◌+◌, ◌<◌, ◌≤◌, Bool, true, false, cond, ltb, List, [], ◌∷◌, ◌++◌, length, get_or, map, sym, refl, ap, ◌∙◌, arith, inl, inr}
use Rattle.std.specs.Prelude.{◌||◌, Some, None}
use Rattle.std.specs.List.{AllByRecursion, filter, find, flat_map, list_any, position, position_or_len, range_with_len}
use Rattle.std.proofs.lemmas.Bool.{cases_eq, ltb-false}
use Rattle.std.proofs.lemmas.List.Sums.{fails_before_first}

abbrev pub Between : ℕ → ℕ → (ℕ → Type 0) → Type 0
Between a n P = (i : ℕ) → a ≤ i → i < a + n → P i

next : (a n : ℕ) (P : ℕ → Type 0) → Between a (suc n) P → Between (a + 1) n P
next a n P all i low high = all i (omega arith) (omega arith)

module _ {X : Type 0} where
  pub map_same : (f g : ℕ → X) (a n : ℕ) → Between a n (λ i. f i ≡ g i) → map f (range_with_len a n) ≡ map g (range_with_len a n)
  map_same f g a zero same = refl
  map_same f g a (suc n) same =
      ap (λ x. x ∷ map f (range_with_len (a + 1) n)) (same a (omega arith) (omega arith))
      ∙ ap (λ xs. g a ∷ xs) (map_same f g (a + 1) n (next a n (λ i. f i ≡ g i) same))

  pub kept_all : (keep : X → Bool) (f : ℕ → X) (a n : ℕ) → Between a n (λ i. keep (f i) ≡ true) → filter keep (map f (range_with_len a n)) ≡ map f (range_with_len a n)
  kept_all keep f a zero all = refl
  kept_all keep f a (suc n) all =
      ap (λ b. cond b (f a ∷ filter keep (map f (range_with_len (a + 1) n))) (filter keep (map f (range_with_len (a + 1) n)))) (all a (omega arith) (omega arith))
      ∙ ap (λ xs. f a ∷ xs) (kept_all keep f (a + 1) n (next a n (λ i. keep (f i) ≡ true) all))

  pub kept_none : (keep : X → Bool) (f : ℕ → X) (a n : ℕ) → Between a n (λ i. keep (f i) ≡ false) → filter keep (map f (range_with_len a n)) ≡ []
  kept_none keep f a zero none = refl
  kept_none keep f a (suc n) none =
      ap (λ b. cond b (f a ∷ filter keep (map f (range_with_len (a + 1) n))) (filter keep (map f (range_with_len (a + 1) n)))) (none a (omega arith) (omega arith))
      ∙ kept_none keep f (a + 1) n (next a n (λ i. keep (f i) ≡ false) none)

  pub dropped_all : (keep : X → Bool) (xs : List X) → AllByRecursion (λ x. keep x ≡ false) xs → filter keep xs ≡ []
  dropped_all keep [] none = refl
  dropped_all keep (x ∷ xs) (first, rest) = ap (λ b. cond b (x ∷ filter keep xs) (filter keep xs)) first ∙ dropped_all keep xs rest

  -- the first that has a property
  pub found_first : (has : X → Bool) (f : ℕ → X) (a n k : ℕ) → a ≤ k → k < a + n → has (f k) ≡ true → ((i : ℕ) → a ≤ i → i < k → has (f i) ≡ false) → find has (map f (range_with_len a n)) ≡ Some (f k)
  found_first has f a zero k low high is none = absurd (omega arith)
  found_first has f a (suc n) k low high is none = elim (cases_eq a k) as (λ _. find has (map f (range_with_len a (suc n))) ≡ Some (f k)) [
    | inl same ↦ ap (λ b. cond b (Some (f a)) (find has (map f (range_with_len (a + 1) n)))) (ap (λ i. has (f i)) same ∙ is) ∙ ap (λ i. Some (f i)) same
    | inr other ↦
        let below : a < k = omega arith in
        ap (λ b. cond b (Some (f a)) (find has (map f (range_with_len (a + 1) n)))) (none a (omega arith) below)
        ∙ found_first has f (a + 1) n k (omega arith) (omega arith) is (λ i l h. none i (omega arith) h)
  ]

  pub found_later : (has : X → Bool) (xs ys : List X) → AllByRecursion (λ x. has x ≡ false) xs → find has (xs ++ ys) ≡ find has ys
  found_later has [] ys none = refl
  found_later has (x ∷ xs) ys (first, rest) = ap (λ b. cond b (Some x) (find has (xs ++ ys))) first ∙ found_later has xs ys rest

  pub found_here : (has : X → Bool) (xs ys : List X) (x : X) → find has xs ≡ Some x → find has (xs ++ ys) ≡ Some x
  found_here has [] ys x e = cc
  found_here has (y ∷ xs) ys x e = by_test (has y) e (λ h. found_here has xs ys x h)
    where
      by_test : (b : Bool) → cond b (Some y) (find has xs) ≡ Some x → (find has xs ≡ Some x → find has (xs ++ ys) ≡ Some x) → cond b (Some y) (find has (xs ++ ys)) ≡ Some x
      by_test true h rest = h
      by_test false h rest = rest h

  pub found_none : (has : X → Bool) (xs : List X) → AllByRecursion (λ x. has x ≡ false) xs → find has xs ≡ None
  found_none has [] none = refl
  found_none has (x ∷ xs) (first, rest) = ap (λ b. cond b (Some x) (find has xs)) first ∙ found_none has xs rest

  pub found_nowhere : (has : X → Bool) (f : ℕ → X) (a n : ℕ) → Between a n (λ i. has (f i) ≡ false) → find has (map f (range_with_len a n)) ≡ None
  found_nowhere has f a zero none = refl
  found_nowhere has f a (suc n) none =
      ap (λ b. cond b (Some (f a)) (find has (map f (range_with_len (a + 1) n)))) (none a (omega arith) (omega arith))
      ∙ found_nowhere has f (a + 1) n (next a n (λ i. has (f i) ≡ false) none)

  -- some has a property
  pub any_of : (has : X → Bool) (f : ℕ → X) (a n k : ℕ) → a ≤ k → k < a + n → has (f k) ≡ true → list_any has (map f (range_with_len a n)) ≡ true
  any_of has f a zero k low high is = absurd (omega arith)
  any_of has f a (suc n) k low high is = elim (cases_eq a k) as (λ _. list_any has (map f (range_with_len a (suc n))) ≡ true) [
    | inl same ↦ ap (λ b. b || list_any has (map f (range_with_len (a + 1) n))) (ap (λ i. has (f i)) same ∙ is)
    | inr other ↦ or_right (has (f a)) (list_any has (map f (range_with_len (a + 1) n))) (any_of has f (a + 1) n k (omega arith) (omega arith) is)
  ]
    where
      or_right : (b c : Bool) → c ≡ true → (b || c) ≡ true
      or_right true c e = refl
      or_right false c e = e

  -- no index has a property
  pub position_none : (has : X → Bool) (xs : List X) (k : ℕ) (d : X) → position has xs ≡ None → k < length xs → has (get_or xs k d) ≡ false
  position_none has xs k d e within = by_test (ltb (position_or_len has xs) (length xs)) refl e
    where
      by_test : (b : Bool) → ltb (position_or_len has xs) (length xs) ≡ b → cond b (Some (position_or_len has xs)) None ≡ None → has (get_or xs k d) ≡ false
      by_test true t h = cc
      by_test false t h = let past = ltb-false (position_or_len has xs) (length xs) t in fails_before_first has xs k d (omega arith)

  -- a list is a front of a range and the rest of it
  pub split_range : (f : ℕ → X) (a m n : ℕ) → map f (range_with_len a (m + n)) ≡ map f (range_with_len a m) ++ map f (range_with_len (a + m) n)
  split_range f a zero n = let none : zero + n ≡ n = omega arith in let here : a ≡ a + zero = omega arith in ap (λ k. map f (range_with_len a k)) none ∙ ap (λ k. map f (range_with_len k n)) here
  split_range f a (suc m) n =
      let more : suc m + n ≡ suc (m + n) = omega arith in
      let on : a + 1 + m ≡ a + suc m = omega arith in
      ap (λ k. map f (range_with_len a k)) more
      ∙ ap (λ xs. f a ∷ xs) (split_range f (a + 1) m n ∙ ap (λ k. map f (range_with_len (a + 1) m) ++ map f (range_with_len k n)) on)

  -- one element for each number
  pub flat_single : (g : ℕ → List X) (f : ℕ → X) (a b n : ℕ) → ((i : ℕ) → i < n → g (a + i) ≡ f (b + i) ∷ []) → flat_map g (range_with_len a n) ≡ map f (range_with_len b n)
  flat_single g f a b zero each = refl
  flat_single g f a b (suc n) each =
      let here : a + 0 ≡ a = omega arith in
      let there : b + 0 ≡ b = omega arith in
      ap (λ xs. xs ++ flat_map g (range_with_len (a + 1) n)) (ap g (sym here) ∙ (each 0 (omega arith) ∙ ap (λ k. f k ∷ []) there))
      ∙ ap (λ xs. f b ∷ xs) (flat_single g f (a + 1) (b + 1) n (λ i l.
      let ea : a + 1 + i ≡ a + suc i = omega arith in
      let eb : b + suc i ≡ b + 1 + i = omega arith in
      ap g ea ∙ (each (suc i) (omega arith) ∙ ap (λ k. f k ∷ []) eb)))

pub map-map-range : {X Y : Type 0} (g : X → Y) (f : ℕ → X) (a n : ℕ) → map g (map f (range_with_len a n)) ≡ map (λ i. g (f i)) (range_with_len a n)
map-map-range g f a zero = refl
map-map-range g f a (suc n) = ap (λ xs. g (f a) ∷ xs) (map-map-range g f (a + 1) n)

pub all-append : {X : Type 0} (P : X → Type 0) (xs ys : List X) → AllByRecursion P xs → AllByRecursion P ys → AllByRecursion P (xs ++ ys)
all-append P [] ys all rest = rest
all-append P (x ∷ xs) ys (first, all) rest = (first, all-append P xs ys all rest)

pub all-mapped : {X : Type 0} (P : X → Type 0) (f : ℕ → X) (a n : ℕ) → Between a n (λ i. P (f i)) → AllByRecursion P (map f (range_with_len a n))
all-mapped P f a zero all = tt
all-mapped P f a (suc n) all = (all a (omega arith) (omega arith), all-mapped P f (a + 1) n (next a n (λ i. P (f i)) all))

pub all-weaker : {X : Type 0} (P Q : X → Type 0) (xs : List X) → ((x : X) → P x → Q x) → AllByRecursion P xs → AllByRecursion Q xs
all-weaker P Q [] weaker all = tt
all-weaker P Q (x ∷ xs) weaker (first, all) = (weaker x first, all-weaker P Q xs weaker all)
