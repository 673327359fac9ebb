-- The picks of one axis that lie in a box.
use Rattle.std.proofs.Common.{◌≡◌, ℕ, ◌+◌, ◌-◌, ◌*◌, ◌/◌, ◌<◌, ◌≤◌, arith, inl, inr}
use Rattle.std.proofs.lemmas.Bool.{cases_lt}
use Rattle.std.proofs.lemmas.Nat.{div-add-mod', le-div, mod_below}
use Rattle.std.proofs.Math.Nat.{div-lt_iff_lt-mul, mul-le-mul_right}
use Rattle.fz_grid.specs.Sieve.{pick_count, picks_before}

-- a number of steps of s, rounded up
abbrev steps_to : ℕ → ℕ → ℕ
steps_to y s = (y + (s - 1)) / s

steps_le : (y s k : ℕ) → 0 < s → y ≤ k * s → steps_to y s ≤ k
steps_le y s k some fits =
    let below : y + (s - 1) < (k + 1) * s = omega arith in
    let P = div-lt_iff_lt-mul {k = s} {x = y + (s - 1)} {y = k + 1} some in
    omega (arith, P.1 below)

steps_gt : (y s k : ℕ) → 0 < s → k * s < y → k < steps_to y s
steps_gt y s k some below =
    let fits : (k + 1) * s ≤ y + (s - 1) = omega arith in
    omega (arith, le-div (k + 1) (y + (s - 1)) s some fits)

steps_reach : (y s : ℕ) → 0 < s → y ≤ steps_to y s * s
steps_reach y s some = omega (arith, div-add-mod' (y + (s - 1)) s, mod_below (y + (s - 1)) s some)

-- a pick that is counted before e stands before e
pub before_end : (o h s e j : ℕ) → 0 < s → j < picks_before o h s e → (j < pick_count o h s) × (o + j * s < e)
before_end o h s e j some before =
    let less : j < steps_to (e - o) s = omega arith in
    (omega arith, elim (cases_lt (j * s) (e - o)) [ inl below ↦ omega (arith, below) | inr not_below ↦ absurd (too_far less not_below) ])
  where
    too_far : j < steps_to (e - o) s → e - o ≤ j * s → ⊥
    too_far less not_below = omega (arith, less, steps_le (e - o) s j some not_below)

-- the first pick that is not counted before c stands at c or after it
pub from_corner : (o h s c f : ℕ) → 0 < s → f ≡ picks_before o h s c → f < pick_count o h s → c ≤ o + f * s
from_corner o h s c f some is below = by (steps_to (c - o) s) (omega arith) (steps_reach (c - o) s some)
  where
    by : (k : ℕ) → f ≡ k → c - o ≤ k * s → c ≤ o + f * s
    by k same reach = rw same (omega (arith, reach))

-- a pick at c or after it is not counted before c
pub counted_before : (o h s c k : ℕ) → 0 < s → c ≤ o + k * s → picks_before o h s c ≤ k
counted_before o h s c k some from = omega (arith, steps_le (c - o) s k some (omega arith))

-- a pick before e is counted
pub counted_within : (o h s e k : ℕ) → 0 < s → k < pick_count o h s → o + k * s < e → k < picks_before o h s e
counted_within o h s e k some inside to = omega (arith, steps_gt (e - o) s k some (omega arith))

-- each pick is at most the upper end
pub pick_le : (o h s k : ℕ) → o ≤ h → k < pick_count o h s → o + k * s ≤ h
pick_le o h s k order inside =
    let most : k * s ≤ (h - o) / s * s = mul-le-mul_right s (omega arith) in
    omega (arith, most, div-add-mod' (h - o) s)

-- and so far there are picks
pub pick_lt : (o h s k : ℕ) → 0 < s → o + k * s ≤ h → k < pick_count o h s
pick_lt o h s k some most = omega (arith, le-div k (h - o) s some (omega arith))

-- the pick counted from the corner, and among all
pub moved_pick : (o s c n f k : ℕ) → c ≤ o + f * s → o + (f + k) * s < c + n → (o + f * s - c + k * s < n) × (c + (o + f * s - c + k * s) ≡ o + (f + k) * s)
moved_pick o s c n f k from to =
    let split : (f + k) * s ≡ f * s + k * s = omega arith in
    (omega (arith, split), omega (arith, split))
