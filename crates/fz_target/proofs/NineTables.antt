-- Tables of nine numbers, of which the first are of the axes (FITS 4.0, section 4.4.1.1).
use Rattle.std.proofs.Common.{◌≡◌, ℕ, zero, suc, ◌+◌, ◌-◌, ◌<◌, ◌≤◌, List, [], ◌∷◌, ◌++◌, get_or, length, take, drop, replicate, refl, sym, ap, ◌∙◌, arith}
use Rattle.std.proofs.lemmas.List.{length-take-le, take-append-drop}
use Rattle.fz_laws.specs.Given.{last_along, nine_numbers}

zeros : (xs : List ℕ) → ((i : ℕ) → get_or xs i 0 ≡ 0) → xs ≡ replicate (length xs) 0
zeros [] zero_at = refl
zeros (x ∷ xs) zero_at = λ i. zero_at 0 i ∷ zeros xs (λ k. zero_at (suc k)) i

zeros_from : (xs : List ℕ) (n : ℕ) → ((i : ℕ) → n ≤ i → get_or xs i 0 ≡ 0) → drop n xs ≡ replicate (length xs - n) 0
zeros_from xs zero zero_at =
    let same : length xs ≡ length xs - 0 = omega arith in
    zeros xs (λ i. zero_at i (omega arith)) ∙ ap (λ k. replicate k 0) same
zeros_from [] (suc n) zero_at =
    let same : 0 ≡ 0 - suc n = omega arith in
    ap (λ k. replicate k 0) same
zeros_from (x ∷ xs) (suc n) zero_at =
    let same : length xs - n ≡ suc (length xs) - suc n = omega arith in
    zeros_from xs n (λ i from. zero_at (suc i) (omega (arith, from))) ∙ ap (λ k. replicate k 0) same

-- a table whose entries from n on are 0
table_is : (xs front : List ℕ) (n : ℕ) → length xs ≡ 9 → n ≤ 9 → take n xs ≡ front → ((i : ℕ) → n ≤ i → get_or xs i 0 ≡ 0) → xs ≡ nine_numbers front
table_is xs front n nine few front_is zero_at =
    let rest : drop n xs ≡ replicate (9 - n) 0 = zeros_from xs n zero_at ∙ ap (λ k. replicate (k - n) 0) nine in
    let long : n ≡ length front = sym (length-take-le n xs (omega (arith, nine, few))) ∙ ap length front_is in
    sym (take-append-drop n xs) ∙ ((λ i. front_is i ++ rest i) ∙ ap (λ k. front ++ replicate (9 - k) 0) long)

-- the last coordinates
last_is : (his los lens : List ℕ) (n : ℕ) → n ≤ length his → n ≤ length los → n ≤ length lens → ((i : ℕ) → i < n → get_or his i 0 ≡ get_or los i 0 + (get_or lens i 0 - 1)) → ((i : ℕ) → i < n → 1 ≤ get_or lens i 0) →
    take n his ≡ last_along (take n los) (take n lens)
last_is his los lens zero a b c each some = refl
last_is [] los lens (suc n) a b c each some = absurd (omega (arith, a))
last_is (h ∷ his) [] lens (suc n) a b c each some = absurd (omega (arith, b))
last_is (h ∷ his) (o ∷ los) [] (suc n) a b c each some = absurd (omega (arith, c))
last_is (h ∷ his) (o ∷ los) (l ∷ lens) (suc n) a b c each some =
    let first : h ≡ o + (l - 1) = each 0 (omega arith) in
    let one : 1 ≤ l = some 0 (omega arith) in
    let here : h ≡ o + l - 1 = omega (arith, first, one) in
    let rest = last_is his los lens n (omega (arith, a)) (omega (arith, b)) (omega (arith, c)) (λ k few. each (suc k) (omega (arith, few))) (λ k few. some (suc k) (omega (arith, few))) in
    λ i. here i ∷ rest i

pub lasts_are : (his los lens : List ℕ) (n : ℕ) → n ≤ 9 → length his ≡ 9 → n ≤ length los → n ≤ length lens → ((i : ℕ) → i < n → get_or his i 0 ≡ get_or los i 0 + (get_or lens i 0 - 1)) → ((i : ℕ) → i < n → 1 ≤ get_or lens i 0) →
    ((i : ℕ) → n ≤ i → get_or his i 0 ≡ 0) → his ≡ nine_numbers (last_along (take n los) (take n lens))
lasts_are his los lens n few nine of_los of_lens each some zero_at =
    table_is his (last_along (take n los) (take n lens)) n nine few (last_is his los lens n (omega (arith, nine, few)) of_los of_lens each some) zero_at

ones_is : (steps : List ℕ) (n : ℕ) → n ≤ length steps → ((i : ℕ) → i < n → get_or steps i 0 ≡ 1) → take n steps ≡ replicate n 1
ones_is steps zero a each = refl
ones_is [] (suc n) a each = absurd (omega (arith, a))
ones_is (s ∷ steps) (suc n) a each =
    let rest = ones_is steps n (omega (arith, a)) (λ k few. each (suc k) (omega (arith, few))) in
    λ i. each 0 (omega arith) i ∷ rest i

pub steps_are : (steps : List ℕ) (n : ℕ) → n ≤ 9 → length steps ≡ 9 → ((i : ℕ) → i < n → get_or steps i 0 ≡ 1) → ((i : ℕ) → n ≤ i → get_or steps i 0 ≡ 0) → steps ≡ nine_numbers (replicate n 1)
steps_are steps n few nine each zero_at = table_is steps (replicate n 1) n nine few (ones_is steps n (omega (arith, nine, few)) each) zero_at
