-- Boxes of an array, axis by axis, and how many pixels they have (FITS 4.0, section 3.3.2).
use Rattle.std.proofs.Common.{◌≡◌, ◌≢◌, ℕ, ◌+◌, ◌-◌, ◌*◌, ◌/◌, ◌<◌, ◌≤◌, List, length, get_or, set, sym, subst, inl, inr, arith, get_or-set_other, get_or-set_same}
use Rattle.std.proofs.lemmas.Bool.{cases_lt}
use Rattle.std.proofs.Math.Nat.{div-mul-le_self, mul-le-mul_right}
use Rattle.fz_look.specs.Boxes.{IsAlong}

-- ---- an entry of a table that is written

pub set_cases : (P : ℕ → ℕ → Type 0) (xs : List ℕ) (i v k : ℕ) → i < length xs → P i v → (k ≢ i → P k (get_or xs k 0)) → P k (get_or (set xs i v) k 0)
set_cases P xs i v k inside here other = elim (cases_lt k i) [ inl before ↦ apart (omega (arith, before)) | inr from ↦ elim (cases_lt i k) [ inl after ↦ apart (omega (arith, after)) | inr to ↦ same (omega (arith, from, to)) ] ]
  where
    apart : k ≢ i → P k (get_or (set xs i v) k 0)
    apart differ = subst (P k) (sym (get_or-set_other xs i k v 0 differ)) (other differ)

    same : i ≡ k → P k (get_or (set xs i v) k 0)
    same is = subst (λ j. P j (get_or (set xs i v) j 0)) is (subst (P i) (sym (get_or-set_same xs i v 0 inside)) here)

-- ---- along an axis

-- the same along the first axes
abbrev pub AreAlong : List ℕ → List ℕ → List ℕ → List ℕ → ℕ → Type 0
AreAlong lo len at ends n = (k : ℕ) → k < n → IsAlong (get_or lo k 0) (get_or len k 0) (get_or at k 0) (get_or ends k 0)

pub both_more : (lo len at ends : List ℕ) (i a b : ℕ) → i < length lo → i < length len → IsAlong a b (get_or at i 0) (get_or ends i 0) → AreAlong lo len at ends i → AreAlong (set lo i a) (set len i b) at ends (i + 1)
both_more lo len at ends i a b in_lo in_len here before k few =
    set_cases (λ j x. IsAlong x (get_or (set len i b) j 0) (get_or at j 0) (get_or ends j 0)) lo i a k in_lo
    (subst (λ y. IsAlong a y (get_or at i 0) (get_or ends i 0)) (sym (get_or-set_same len i b 0 in_len)) here)
    (λ differ. subst (λ y. IsAlong (get_or lo k 0) y (get_or at k 0) (get_or ends k 0)) (sym (get_or-set_other len i k b 0 differ)) (before k (omega (arith, few, differ))))

-- ---- how many pixels

pub fits_room : (a b most : ℕ) → a ≤ most / b → a * b ≤ most
fits_room a b most room = let all = mul-le-mul_right b room in let most_of = div-mul-le_self most b in omega (arith, all, most_of)
