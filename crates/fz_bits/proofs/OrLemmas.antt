-- The bits of two numbers joined by a bitwise or.
use Rattle.std.proofs.Common.{◌≡◌, ℕ, zero, suc, ◌+◌, ◌/◌, ◌%◌, ◌<◌, bit_or, Bool, true, false, ◌||◌, ◌==◌, List, [], ◌∷◌, ◌++◌, length, replicate, inl, inr, refl, sym, ap, ◌∙◌, arith}
use Rattle.std.proofs.lemmas.Bool.{cases_lt}
use Rattle.std.proofs.lemmas.Nat.{or_shr, or_mod}
use Rattle.std.proofs.lemmas.List.{length-replicate}
use Rattle.fz_bits.specs.Bits.{last_bit, number_bits}
use Rattle.fz_bits.proofs.BitsLemmas.{length-number_bits}

-- two lists of bits, place by place
pub or_bits : List Bool → List Bool → List Bool
or_bits [] ys = []
or_bits (x ∷ xs) [] = []
or_bits (x ∷ xs) (y ∷ ys) = (x || y) ∷ or_bits xs ys

or_bits-append : (xs ys zs us : List Bool) → length xs ≡ length ys → or_bits (xs ++ zs) (ys ++ us) ≡ or_bits xs ys ++ or_bits zs us
unfolding or_bits
or_bits-append [] [] zs us len = refl
or_bits-append [] (y ∷ ys) zs us len = absurd (omega (arith, len))
or_bits-append (x ∷ xs) [] zs us len = absurd (omega (arith, len))
or_bits-append (x ∷ xs) (y ∷ ys) zs us len = ap (λ l. (x || y) ∷ l) (or_bits-append xs ys zs us (omega (arith, len)))

or_same : (x : Bool) → (x || x) ≡ x
or_same true = refl
or_same false = refl

or_false : (x : Bool) → (x || false) ≡ x
or_false true = refl
or_false false = refl

or_bits-same : (xs : List Bool) → or_bits xs xs ≡ xs
unfolding or_bits
or_bits-same [] = refl
or_bits-same (x ∷ xs) = ap (λ y. y ∷ or_bits xs xs) (or_same x) ∙ ap (λ l. x ∷ l) (or_bits-same xs)

or_bits-zeros : (n : ℕ) (xs : List Bool) → length xs ≡ n → or_bits (replicate n false) xs ≡ xs
unfolding or_bits
or_bits-zeros zero [] len = refl
or_bits-zeros zero (x ∷ xs) len = absurd (omega (arith, len))
or_bits-zeros (suc n) [] len = absurd (omega (arith, len))
or_bits-zeros (suc n) (x ∷ xs) len = ap (λ l. x ∷ l) (or_bits-zeros n xs (omega (arith, len)))

or_bits-zeros_right : (n : ℕ) (xs : List Bool) → length xs ≡ n → or_bits xs (replicate n false) ≡ xs
unfolding or_bits
or_bits-zeros_right zero [] len = refl
or_bits-zeros_right zero (x ∷ xs) len = absurd (omega (arith, len))
or_bits-zeros_right (suc n) [] len = absurd (omega (arith, len))
or_bits-zeros_right (suc n) (x ∷ xs) len = ap (λ y. y ∷ or_bits xs (replicate n false)) (or_false x) ∙ ap (λ l. x ∷ l) (or_bits-zeros_right n xs (omega (arith, len)))

-- lists that both have a middle part, one with zeros after it and one with zeros in front
pub or_overlap : (front mid back : List Bool) (m n : ℕ) → length front ≡ m → length back ≡ n → or_bits (front ++ (mid ++ replicate n false)) (replicate m false ++ (mid ++ back)) ≡ front ++ (mid ++ back)
or_overlap front mid back m n in_front in_back =
    or_bits-append front (replicate m false) (mid ++ replicate n false) (mid ++ back) (in_front ∙ sym (length-replicate m false)) ∙ ap (λ l. l ++ or_bits (mid ++ replicate n false) (mid ++ back)) (or_bits-zeros_right m front in_front) ∙ ap (λ l. front ++ l) (or_bits-append mid mid (replicate n false) back refl ∙ ap (λ l. l ++ or_bits (replicate n false) back) (or_bits-same mid) ∙ ap (λ l. mid ++ l) (or_bits-zeros n back in_back))

bit_cases : (a b : ℕ) → a < 2 → b < 2 → (bit_or a b == 1) ≡ (a == 1 || b == 1)
bit_cases zero zero h k = refl
bit_cases zero (suc zero) h k = refl
bit_cases (suc zero) zero h k = refl
bit_cases (suc zero) (suc zero) h k = refl
bit_cases (suc (suc a)) b h k = absurd (omega (arith, h))
bit_cases a (suc (suc b)) h k = absurd (omega (arith, k))

or-last : (a b : ℕ) → last_bit (bit_or a b) ≡ (last_bit a || last_bit b)
or-last a b = ap (λ k. k == 1) (or_mod a b 1) ∙ bit_cases (a % 2) (b % 2) (omega arith) (omega arith)

pub number_bits-or : (n a b : ℕ) → number_bits n (bit_or a b) ≡ or_bits (number_bits n a) (number_bits n b)
unfolding number_bits or_bits
number_bits-or zero a b = refl
number_bits-or (suc n) a b =
    let len : length (number_bits n (a / 2)) ≡ length (number_bits n (b / 2)) = length-number_bits n (a / 2) ∙ sym (length-number_bits n (b / 2)) in
    ap (λ v. number_bits n v ++ last_bit (bit_or a b) ∷ []) (or_shr a b 1) ∙ ap (λ l. l ++ last_bit (bit_or a b) ∷ []) (number_bits-or n (a / 2) (b / 2)) ∙ ap (λ x. or_bits (number_bits n (a / 2)) (number_bits n (b / 2)) ++ x ∷ []) (or-last a b) ∙ sym (or_bits-append (number_bits n (a / 2)) (number_bits n (b / 2)) (last_bit a ∷ []) (last_bit b ∷ []) len)
