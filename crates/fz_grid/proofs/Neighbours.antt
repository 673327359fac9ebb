-- Lists of functions of neighbouring numbers, and of lists one after another.
use Rattle.std.proofs.Common.{◌≡◌, ℕ, suc, zero, ◌+◌, ◌<◌, List, [], ◌∷◌, ◌++◌, map, refl, ap, sym, ◌∙◌, arith}
use Rattle.std.specs.List.{flat_map, range_with_len}
use Rattle.std.proofs.lemmas.List.{map-append, map-id}

-- two lists from functions of the place that give the same
pub map_range_same : {X : Type 0} (f g : ℕ → X) (a b n : ℕ) → ((i : ℕ) → i < n → f (a + i) ≡ g (b + i)) → map f (range_with_len a n) ≡ map g (range_with_len b n)
map_range_same f g a b zero same = refl
map_range_same {X} f g a b (suc n) same =
    let at_a : a + zero ≡ a = omega arith in
    let at_b : b + zero ≡ b = omega arith in
    let here : f a ≡ g b = ap f (sym at_a) ∙ (same zero (omega arith) ∙ ap g at_b) in
    let later : (i : ℕ) → i < n → f (a + 1 + i) ≡ g (b + 1 + i) = λ i h.
    let next_a : a + 1 + i ≡ a + suc i = omega arith in
    let next_b : b + 1 + i ≡ b + suc i = omega arith in
    ap f next_a ∙ (same (suc i) (omega arith) ∙ ap g (sym next_b)) in
    ap (λ x. x ∷ map f (range_with_len (a + 1) n)) here ∙ ap (λ l. g b ∷ l) (map_range_same f g (a + 1) (b + 1) n later)

-- a list of neighbouring numbers, counted from another number on
pub range_moved : (a b n : ℕ) (f : ℕ → ℕ) → ((i : ℕ) → i < n → f (b + i) ≡ a + i) → map f (range_with_len b n) ≡ range_with_len a n
range_moved a b n f same = map_range_same f (λ x. x) b a n same ∙ map-id (range_with_len a n)

pub map_flat_map : {A B C : Type 0} (h : B → C) (f : A → List B) (xs : List A) → map h (flat_map f xs) ≡ flat_map (λ x. map h (f x)) xs
map_flat_map h f [] = refl
map_flat_map h f (x ∷ xs) = map-append h (f x) (flat_map f xs) ∙ ap (λ l. map h (f x) ++ l) (map_flat_map h f xs)

pub flat_map_same : {A B : Type 0} (f g : A → List B) (xs : List A) → ((x : A) → f x ≡ g x) → flat_map f xs ≡ flat_map g xs
flat_map_same f g [] same = refl
flat_map_same f g (x ∷ xs) same = ap (λ l. l ++ flat_map f xs) (same x) ∙ ap (λ l. g x ++ l) (flat_map_same f g xs same)
