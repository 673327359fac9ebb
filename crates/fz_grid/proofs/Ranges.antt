-- Lists of neighbouring numbers.
use Rattle.std.proofs.Common.{◌≡◌, ℕ, suc, zero, ◌+◌, ◌*◌, ◌/◌, ◌%◌, ◌<◌, List, [], ◌∷◌, ◌++◌, map, refl, ap, sym, ◌∙◌, arith}
use Rattle.std.specs.List.{flat_map, range_with_len}
use Rattle.std.proofs.lemmas.List.{map-append, map-id}
use Rattle.std.proofs.lemmas.List.Concat.{flat_map-append}
use Rattle.std.proofs.lemmas.Nat.{div-add-mod', div-mul-add, mod-mul-add}

pub range_append : (a m n k b : ℕ) → k ≡ m + n → b ≡ a + m → range_with_len a k ≡ range_with_len a m ++ range_with_len b n
range_append a zero n k b whole next =
    ap (range_with_len a) whole' ∙ ap (λ x. range_with_len x n) (sym next')
  where
    whole' : k ≡ n
    whole' = omega (arith, whole)

    next' : b ≡ a
    next' = omega (arith, next)
range_append a (suc m) n k b whole next =
    let whole' : k ≡ suc (m + n) = omega (arith, whole) in
    ap (range_with_len a) whole' ∙ ap (λ l. a ∷ l) (range_append (a + 1) m n (m + n) b refl (omega (arith, next)))

-- two lists from functions of the place that give the same
pub map_range_same : {X : Type 0} (f g : ℕ → X) (a b n : ℕ) → ((i : ℕ) → i < n → f (a + i) ≡ g (b + i)) → map f (range_with_len a n) ≡ map g (range_with_len b n)
map_range_same f g a b zero same = refl
map_range_same {X} f g a b (suc n) same =
    let at_a : a + zero ≡ a = omega arith in
    let at_b : b + zero ≡ b = omega arith in
    let here : f a ≡ g b = ap f (sym at_a) ∙ (same zero (omega arith) ∙ ap g at_b) in
    let later : (i : ℕ) → i < n → f (a + 1 + i) ≡ g (b + 1 + i) = λ i h.
    let next_a : a + 1 + i ≡ a + suc i = omega arith in
    let next_b : b + 1 + i ≡ b + suc i = omega arith in
    ap f next_a ∙ (same (suc i) (omega arith) ∙ ap g (sym next_b)) in
    ap (λ x. x ∷ map f (range_with_len (a + 1) n)) here ∙ ap (λ l. g b ∷ l) (map_range_same f g (a + 1) (b + 1) n later)

-- rows of n, one after the other, are one list of their places
pub rows_from : {X : Type 0} (g : ℕ → ℕ → X) (n a m : ℕ) → 0 < n → flat_map (λ q. map (λ c. g c q) (range_with_len 0 n)) (range_with_len a m) ≡ map (λ k. g (k % n) (k / n)) (range_with_len (a * n) (m * n))
rows_from g n a zero positive =
    let none : zero * n ≡ zero = omega arith in
    ap (λ k. map (λ k'. g (k' % n) (k' / n)) (range_with_len (a * n) k)) (sym none)
rows_from {X} g n a (suc m) positive =
    let place : ℕ → X = λ k. g (k % n) (k / n) in
    let split = range_append (a * n) n (m * n) (suc m * n) ((a + 1) * n) (omega arith) (omega arith) in
    let first : map (λ c. g c a) (range_with_len 0 n) ≡ map place (range_with_len (a * n) n) =
    map_range_same (λ c. g c a) place 0 (a * n) n (λ i h.
    let zero_more : 0 + i ≡ i = omega arith in
    let low : (a * n + i) % n ≡ i = mod-mul-add a n i h in
    let high : (a * n + i) / n ≡ a = div-mul-add a n i h in
    ap (λ c. g c a) zero_more ∙ (ap (λ c. g c a) (sym low) ∙ ap (g ((a * n + i) % n)) (sym high))) in
    ap (λ l. l ++ flat_map (λ q. map (λ c. g c q) (range_with_len 0 n)) (range_with_len (a + 1) m)) first
    ∙ (ap (λ l. map place (range_with_len (a * n) n) ++ l) (rows_from g n (a + 1) m positive)
    ∙ (sym (map-append place (range_with_len (a * n) n) (range_with_len ((a + 1) * n) (m * n)))
    ∙ ap (map place) (sym split)))

pub map_flat_map : {A B C : Type 0} (h : B → C) (f : A → List B) (xs : List A) → map h (flat_map f xs) ≡ flat_map (λ x. map h (f x)) xs
map_flat_map h f [] = refl
map_flat_map h f (x ∷ xs) = map-append h (f x) (flat_map f xs) ∙ ap (λ l. map h (f x) ++ l) (map_flat_map h f xs)

pub flat_map_same : {A B : Type 0} (f g : A → List B) (xs : List A) → ((x : A) → f x ≡ g x) → flat_map f xs ≡ flat_map g xs
flat_map_same f g [] same = refl
flat_map_same f g (x ∷ xs) same = ap (λ l. l ++ flat_map f xs) (same x) ∙ ap (λ l. g x ++ l) (flat_map_same f g xs same)

pub flat_map_twice : {A B C : Type 0} (f : B → List C) (g : A → List B) (xs : List A) → flat_map f (flat_map g xs) ≡ flat_map (λ x. flat_map f (g x)) xs
flat_map_twice f g [] = refl
flat_map_twice f g (x ∷ xs) = flat_map-append f (g x) (flat_map g xs) ∙ ap (λ l. flat_map f (g x) ++ l) (flat_map_twice f g xs)

-- a list of neighbouring numbers, counted from another number on
pub range_moved : (a b n : ℕ) (f : ℕ → ℕ) → ((i : ℕ) → i < n → f (b + i) ≡ a + i) → map f (range_with_len b n) ≡ range_with_len a n
range_moved a b n f same = map_range_same f (λ x. x) b a n same ∙ map-id (range_with_len a n)

-- rows of n places, one after the other, are neighbours
pub rows_joined : (n a m : ℕ) → 0 < n → flat_map (λ p. map (λ c. c + n * p) (range_with_len 0 n)) (range_with_len a m) ≡ range_with_len (n * a) (n * m)
rows_joined n a m some =
    let turned : (i : ℕ) → (a * n + i) % n + n * ((a * n + i) / n) ≡ n * a + i = λ i. omega (arith, div-add-mod' (a * n + i) n) in
    let many : m * n ≡ n * m = omega arith in
    rows_from (λ c q. c + n * q) n a m some
    ∙ (range_moved (n * a) (a * n) (m * n) (λ k. k % n + n * (k / n)) (λ i h. turned i)
    ∙ ap (range_with_len (n * a)) many)
