-- Tables of nine axes as lists (FITS 4.0, section 4.4.1.1).
use Rattle.std.proofs.Common.{◌≡◌, ℕ, zero, suc, ◌+◌, ◌-◌, ◌<◌, ◌≤◌, List, [], ◌∷◌, ◌++◌, get_or, length, take, drop, replicate, refl, sym, ap, ◌∙◌, arith}
use Rattle.std.proofs.lemmas.List.{take-append-drop}
use Rattle.fz_files.specs.Walks.{lengths_between}

zeros : (xs : List ℕ) → ((i : ℕ) → get_or xs i 0 ≡ 0) → xs ≡ replicate (length xs) 0
zeros [] zero_at = refl
zeros (x ∷ xs) zero_at = λ i. zero_at 0 i ∷ zeros xs (λ k. zero_at (suc k)) i

zeros_from : (xs : List ℕ) (n : ℕ) → ((i : ℕ) → n ≤ i → get_or xs i 0 ≡ 0) → drop n xs ≡ replicate (length xs - n) 0
zeros_from xs zero zero_at =
    let same : length xs ≡ length xs - 0 = omega arith in
    zeros xs (λ i. zero_at i (omega arith)) ∙ ap (λ k. replicate k 0) same
zeros_from [] (suc n) zero_at =
    let same : 0 ≡ 0 - suc n = omega arith in
    ap (λ k. replicate k 0) same
zeros_from (x ∷ xs) (suc n) zero_at =
    let same : length xs - n ≡ suc (length xs) - suc n = omega arith in
    zeros_from xs n (λ i from. zero_at (suc i) (omega (arith, from))) ∙ ap (λ k. replicate k 0) same

-- a table whose entries from n on are 0
pub front_and_zeros : (xs front : List ℕ) (n : ℕ) → length xs ≡ 9 → take n xs ≡ front → ((i : ℕ) → n ≤ i → get_or xs i 0 ≡ 0) → xs ≡ front ++ replicate (9 - n) 0
front_and_zeros xs front n nine front_is zero_at =
    let rest : drop n xs ≡ replicate (9 - n) 0 = zeros_from xs n zero_at ∙ ap (λ k. replicate (k - n) 0) nine in
    sym (take-append-drop n xs) ∙ (λ i. front_is i ++ rest i)

-- a table of the lengths of a box
pub between_is : (lens los his : List ℕ) (n : ℕ) → n ≤ length lens → n ≤ length los → n ≤ length his → ((i : ℕ) → i < n → get_or lens i 0 ≡ get_or his i 0 - get_or los i 0 + 1) →
    take n lens ≡ lengths_between (take n los) (take n his)
between_is lens los his zero a b c each = refl
between_is [] los his (suc n) a b c each = absurd (omega (arith, a))
between_is (l ∷ lens) [] his (suc n) a b c each = absurd (omega (arith, b))
between_is (l ∷ lens) (o ∷ los) [] (suc n) a b c each = absurd (omega (arith, c))
between_is (l ∷ lens) (o ∷ los) (h ∷ his) (suc n) a b c each =
    λ i. each 0 (omega arith) i ∷ between_is lens los his n (omega (arith, a)) (omega (arith, b)) (omega (arith, c)) (λ k few. each (suc k) (omega (arith, few))) i
