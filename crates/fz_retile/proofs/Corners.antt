-- Coordinates counted from the corner of a region, one axis after another (FITS 4.0, section 3.3.2).
use Rattle.std.proofs.Common.{◌≡◌, ℕ, zero, suc, ◌+◌, ◌-◌, ◌<◌, ◌≤◌, inl, inr, List, [], ◌∷◌, length, take, set, get_or, ap, ◌∙◌, arith, get_or-set_other, get_or-set_same, refl}
use Rattle.std.proofs.lemmas.Bool.{cases_lt}
use Rattle.fz_look.specs.Boxes.{from_corner}

-- the entries below i are counted from the corner
abbrev pub AreCounted : List ℕ → List ℕ → ℕ → List ℕ → Type 0
AreCounted os cs i xs = (k : ℕ) → k < i → get_or xs k 0 ≡ get_or cs k 0 - get_or os k 0

-- one more
pub counted_more : (os cs xs : List ℕ) (i v : ℕ) → i < length xs → v ≡ get_or cs i 0 - get_or os i 0 → AreCounted os cs i xs → AreCounted os cs (i + 1) (set xs i v)
counted_more os cs xs i v inside is before k below =
    elim (cases_lt k i) [ inl earlier ↦ get_or-set_other xs i k v 0 (omega (arith, earlier)) ∙ before k earlier | inr later ↦ here (omega (arith, below, later)) ]
  where
    here : k ≡ i → get_or (set xs i v) k 0 ≡ get_or cs k 0 - get_or os k 0
    here same =
        ap (λ n. get_or (set xs i v) n 0) same ∙ get_or-set_same xs i v 0 inside ∙ is
        ∙ ap (λ n. get_or cs n 0 - get_or os n 0) (omega (arith, same))

-- so all are the coordinates in the region
pub corner_is : (n : ℕ) (os cs xs : List ℕ) → n ≤ length os → n ≤ length cs → n ≤ length xs → AreCounted os cs n xs → take n xs ≡ from_corner (take n os) cs
corner_is zero os cs xs a b c each = refl
corner_is (suc n) [] cs xs a b c each = absurd (omega (arith, a))
corner_is (suc n) (o ∷ os) [] xs a b c each = absurd (omega (arith, b))
corner_is (suc n) (o ∷ os) (x ∷ cs) [] a b c each = absurd (omega (arith, c))
corner_is (suc n) (o ∷ os) (x ∷ cs) (y ∷ xs) a b c each =
    let first : y ≡ x - o = each 0 (omega arith) in
    let rest = corner_is n os cs xs (omega (arith, a)) (omega (arith, b)) (omega (arith, c)) (λ k low. each (suc k) (omega (arith, low))) in
    λ i. first i ∷ rest i
