-- The place of the first pixel of a box, counted from 0.
use Rattle.std.proofs.Common.{◌≡◌, ℕ, zero, suc, ◌-◌, ◌<◌, ◌≤◌, List, [], ◌∷◌, get_or, length, take, map, refl, arith}

pub lessened : (corner at : List ℕ) (n : ℕ) → n ≤ length corner → n ≤ length at → ((i : ℕ) → i < n → get_or corner i 0 ≡ get_or at i 0 - 1) → take n corner ≡ map (λ k. k - 1) (take n at)
lessened corner at zero a b each = refl
lessened [] at (suc n) a b each = absurd (omega (arith, a))
lessened (c ∷ corner) [] (suc n) a b each = absurd (omega (arith, b))
lessened (c ∷ corner) (x ∷ at) (suc n) a b each = λ i. each 0 (omega arith) i ∷ lessened corner at n (omega (arith, a)) (omega (arith, b)) (λ k few. each (suc k) (omega (arith, few))) i
