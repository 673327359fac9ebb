-- Numbers, their residues, and their mapped differences, there and back.
use Rattle.std.proofs.Common.{◌≡◌, ℕ, suc, ◌+◌, ◌-◌, ◌*◌, ◌/◌, ◌%◌, ◌^◌, ◌<◌, ◌≤◌, cond, Bool, ℤ, pos, negsuc, List, [], ◌∷◌, length, inl, inr, refl, sym, subst, ap, ◌∙◌, arith}
use Rattle.std.specs.List.{AllByRecursion}
use Rattle.std.proofs.Math.Nat.{pow-suc, mod-eq_of_lt}
use Rattle.std.proofs.lemmas.Bool.{cases_lt, cases_eq}
use Rattle.std.proofs.lemmas.Nat.{pow_pos, mod_below, mod-mul-add}
use Rattle.fz_rice.specs.Reading.{number, unmapped, next_residue, numbers_from}
use Rattle.fz_rice.specs.Numbers.{IsWidth, IsNumber, residue}
use Rattle.fz_rice.specs.Code.{difference, mapped, differences}
use Rattle.fz_laws.proofs.RiceFields.{lt-true, lt-false}
use Rattle.fz_laws.proofs.RiceBlocks.{eq-true, eq-false, IsValue}

mod_same : (a n : ℕ) → a < n → a % n ≡ a
mod_same a n h = mod-eq_of_lt h

pub width_pos : (w : ℕ) → IsWidth w → 0 < w
width_pos w is = elim is [ inl e ↦ omega arith | inr f ↦ elim f [ inl e ↦ omega arith | inr e ↦ omega arith ] ]

pub twice_half : (w : ℕ) → IsWidth w → 2 ^ w ≡ 2 ^ (w - 1) * 2
twice_half w is =
    let p = width_pos w is in
    let e : w ≡ suc (w - 1) = omega arith in
    ap (λ k. 2 ^ k) e ∙ pow-suc 2 (w - 1)

number-8 : (w u : ℕ) → w ≡ 8 → number w u ≡ pos u
number-8 w u e = rw (eq-true w 8 e) refl

number-low : (w u : ℕ) → (w ≡ 8 → ⊥) → u < 2 ^ (w - 1) → number w u ≡ pos u
number-low w u n h = rw (eq-false w 8 n, lt-true u (2 ^ (w - 1)) h) refl

number-high : (w u : ℕ) → (w ≡ 8 → ⊥) → 2 ^ (w - 1) ≤ u → number w u ≡ negsuc (2 ^ w - 1 - u)
number-high w u n h = rw (eq-false w 8 n, lt-false u (2 ^ (w - 1)) h) refl

pub residue_lt : (w : ℕ) (x : ℤ) → residue w x < 2 ^ w
residue_lt w (pos n) = mod_below n (2 ^ w) (pow_pos w)
residue_lt w (negsuc n) = omega (arith, mod_below n (2 ^ w) (pow_pos w), pow_pos w)

residue_high : (w u : ℕ) → u < 2 ^ w → residue w (negsuc (2 ^ w - 1 - u)) ≡ u
residue_high w u h =
    let same = mod_same (2 ^ w - 1 - u) (2 ^ w) (omega arith) in
    omega (arith, same)

pub residue-number : (w u : ℕ) → u < 2 ^ w → residue w (number w u) ≡ u
residue-number w u h = elim (cases_eq w 8) [
  | inl e ↦ ap (residue w) (number-8 w u e) ∙ mod-eq_of_lt h
  | inr n ↦ elim (cases_lt u (2 ^ (w - 1))) [
    | inl low ↦ ap (residue w) (number-low w u n low) ∙ mod-eq_of_lt h
    | inr high ↦ ap (residue w) (number-high w u n high) ∙ residue_high w u h
  ]
]

number_8 : (w n : ℕ) → w ≡ 8 → n < 2 ^ w → IsNumber w (pos n)
number_8 w n e h = subst (λ (b : Bool). n < cond b (2 ^ w) (2 ^ (w - 1))) (sym (eq-true w 8 e)) h

number_signed : (w n : ℕ) → (w ≡ 8 → ⊥) → n < 2 ^ (w - 1) → IsNumber w (pos n)
number_signed w n k h = subst (λ (b : Bool). n < cond b (2 ^ w) (2 ^ (w - 1))) (sym (eq-false w 8 k)) h

pub IsNumber-number : (w u : ℕ) → IsWidth w → u < 2 ^ w → IsNumber w (number w u)
IsNumber-number w u is h = elim (cases_eq w 8) [
  | inl e ↦ subst (IsNumber w) (sym (number-8 w u e)) (number_8 w u e h)
  | inr n ↦ elim (cases_lt u (2 ^ (w - 1))) [
    | inl low ↦ subst (IsNumber w) (sym (number-low w u n low)) (number_signed w u n low)
    | inr high ↦ subst (IsNumber w) (sym (number-high w u n high)) (n, omega (arith, twice_half w is))
  ]
]

pub number-residue : (w : ℕ) (x : ℤ) → IsWidth w → IsNumber w x → number w (residue w x) ≡ x
number-residue w (pos n) is h = elim (cases_eq w 8) [
  | inl e ↦
      let small : n < 2 ^ w = subst (λ (b : Bool). n < cond b (2 ^ w) (2 ^ (w - 1))) (eq-true w 8 e) h in
      number-8 w (n % 2 ^ w) e ∙ ap pos (mod-eq_of_lt small)
  | inr k ↦
      let small : n < 2 ^ (w - 1) = subst (λ (b : Bool). n < cond b (2 ^ w) (2 ^ (w - 1))) (eq-false w 8 k) h in
      let same = mod_same (n) (2 ^ w) (omega (arith, twice_half w is)) in
      ap (number w) same ∙ number-low w n k small
]
number-residue w (negsuc n) is h =
    let double = twice_half w is in
    let same = mod_same (n) (2 ^ w) (omega (arith, double, h.1)) in
    let u : 2 ^ w - 1 - n % 2 ^ w ≡ 2 ^ w - 1 - n = ap (λ k. 2 ^ w - 1 - k) same in
    ap (number w) u ∙ number-high w (2 ^ w - 1 - n) h.0 (omega (arith, double, h.1)) ∙ ap negsuc (omega (arith, double, h.1))

-- one turn of a modulus
mod_once : (a n : ℕ) → a < n → (a + n) % n ≡ a
mod_once a n h =
    let e : a + n ≡ 1 * n + a = omega arith in
    ap (λ k. k % n) e ∙ mod-mul-add 1 n a h

-- a sum below twice the modulus
mod_sum : (a n : ℕ) → n ≤ a → a < n + n → a % n ≡ a - n
mod_sum a n low high =
    let e : a ≡ a - n + n = omega arith in
    ap (λ k. k % n) e ∙ mod_once (a - n) n (omega arith)

pub difference-next : (n last u : ℕ) → last < n → u < n → ((last + u) % n + (n - last)) % n ≡ u
difference-next n last u h k = elim (cases_lt (last + u) n) [
  | inl low ↦
      let same = mod_same (last + u) (n) low in
      ap (λ x. (x + (n - last)) % n) same ∙ ap (λ x. x % n) (omega arith) ∙ mod_once u n k
  | inr high ↦
      let less = mod_sum (last + u) n high (omega arith) in
      ap (λ x. (x + (n - last)) % n) less ∙ ap (λ x. x % n) (omega arith) ∙ mod-eq_of_lt k
]

pub next-difference : (n last u : ℕ) → last < n → u < n → (last + (u + (n - last)) % n) % n ≡ u
next-difference n last u h k = elim (cases_lt (u + (n - last)) n) [
  | inl low ↦
      let same = mod_same (u + (n - last)) (n) low in
      ap (λ x. (last + x) % n) same ∙ ap (λ x. x % n) (omega arith) ∙ mod_once u n k
  | inr high ↦
      let less = mod_sum (u + (n - last)) n high (omega arith) in
      ap (λ x. (last + x) % n) less ∙ ap (λ x. x % n) (omega arith) ∙ mod-eq_of_lt k
]

pub mapped-low : (w d : ℕ) → d < 2 ^ (w - 1) → mapped w d ≡ 2 * d
mapped-low w d h = rw (lt-true d (2 ^ (w - 1)) h) refl

pub mapped-high : (w d : ℕ) → 2 ^ (w - 1) ≤ d → mapped w d ≡ 2 * (2 ^ w - d) - 1
mapped-high w d h = rw (lt-false d (2 ^ (w - 1)) h) refl

pub unmapped-even : (w v : ℕ) → v % 2 ≡ 0 → unmapped w v ≡ v / 2
unmapped-even w v h = rw (eq-true (v % 2) 0 h) refl

pub unmapped-odd : (w v : ℕ) → (v % 2 ≡ 0 → ⊥) → unmapped w v ≡ 2 ^ w - 1 - v / 2
unmapped-odd w v h = rw (eq-false (v % 2) 0 h) refl

pub mapped_lt : (w d : ℕ) → IsWidth w → d < 2 ^ w → mapped w d < 2 ^ w
mapped_lt w d is h = elim (cases_lt d (2 ^ (w - 1))) [
  | inl low ↦ omega (arith, mapped-low w d low, twice_half w is)
  | inr high ↦ omega (arith, mapped-high w d high, twice_half w is)
]

pub unmapped_lt : (w v : ℕ) → IsWidth w → v < 2 ^ w → unmapped w v < 2 ^ w
unmapped_lt w v is h = elim (cases_eq (v % 2) 0) [
  | inl even ↦ omega (arith, unmapped-even w v even)
  | inr odd ↦ omega (arith, unmapped-odd w v odd)
]

pub mapped-unmapped : (w v : ℕ) → IsWidth w → v < 2 ^ w → mapped w (unmapped w v) ≡ v
mapped-unmapped w v is h = elim (cases_eq (v % 2) 0) [
  | inl even ↦
      let double = twice_half w is in
      ap (mapped w) (unmapped-even w v even) ∙ mapped-low w (v / 2) (omega arith) ∙ omega arith
  | inr odd ↦
      let double = twice_half w is in
      ap (mapped w) (unmapped-odd w v odd) ∙ mapped-high w (2 ^ w - 1 - v / 2) (omega arith) ∙ omega arith
]

pub unmapped-mapped : (w d : ℕ) → IsWidth w → d < 2 ^ w → unmapped w (mapped w d) ≡ d
unmapped-mapped w d is h = elim (cases_lt d (2 ^ (w - 1))) [
  | inl low ↦ ap (unmapped w) (mapped-low w d low) ∙ unmapped-even w (2 * d) (omega arith) ∙ omega arith
  | inr high ↦
      let double = twice_half w is in
      ap (unmapped w) (mapped-high w d high) ∙ unmapped-odd w (2 * (2 ^ w - d) - 1) (λ e. absurd (omega arith)) ∙ omega arith
]

pub next_lt : (w last v : ℕ) → next_residue w last v < 2 ^ w
next_lt w last v = mod_below (last + unmapped w v) (2 ^ w) (pow_pos w)

-- the difference to the next residue is the one that was added
pub mapped-next : (w last v : ℕ) → IsWidth w → last < 2 ^ w → v < 2 ^ w → mapped w (difference w last (next_residue w last v)) ≡ v
mapped-next w last v is h k =
    ap (mapped w) (difference-next (2 ^ w) last (unmapped w v) h (unmapped_lt w v is k)) ∙ mapped-unmapped w v is k

-- what is added to `last` for the mapped difference to u is u
pub next-mapped : (w last u : ℕ) → IsWidth w → last < 2 ^ w → u < 2 ^ w → next_residue w last (mapped w (difference w last u)) ≡ u
next-mapped w last u is h k =
    ap (λ d. (last + d) % 2 ^ w) (unmapped-mapped w (difference w last u) is (mod_below (u + (2 ^ w - last)) (2 ^ w) (pow_pos w))) ∙ next-difference (2 ^ w) last u h k

pub length-differences : (w last : ℕ) (xs : List ℤ) → length (differences w last xs) ≡ length xs
length-differences w last [] = refl
length-differences w last (x ∷ xs) = ap suc (length-differences w (residue w x) xs)

pub length-numbers_from : (w last : ℕ) (vs : List ℕ) → length (numbers_from w last vs) ≡ length vs
length-numbers_from w last [] = refl
length-numbers_from w last (v ∷ vs) = ap suc (length-numbers_from w (next_residue w last v) vs)

pub values-differences : (w last : ℕ) (xs : List ℤ) → IsWidth w → AllByRecursion (IsValue w) (differences w last xs)
values-differences w last [] is = tt
values-differences w last (x ∷ xs) is =
    (mapped_lt w (difference w last (residue w x)) is (mod_below (residue w x + (2 ^ w - last)) (2 ^ w) (pow_pos w)), values-differences w (residue w x) xs is)

pub IsNumber-numbers_from : (w last : ℕ) (vs : List ℕ) → IsWidth w → AllByRecursion (IsNumber w) (numbers_from w last vs)
IsNumber-numbers_from w last [] is = tt
IsNumber-numbers_from w last (v ∷ vs) is =
    (IsNumber-number w (next_residue w last v) is (next_lt w last v), IsNumber-numbers_from w (next_residue w last v) vs is)

pub differences-numbers_from : (w last : ℕ) (vs : List ℕ) → IsWidth w → last < 2 ^ w → AllByRecursion (IsValue w) vs → differences w last (numbers_from w last vs) ≡ vs
differences-numbers_from w last [] is h all = refl
differences-numbers_from w last (v ∷ vs) is h all =
    let u = next_residue w last v in
    let back : residue w (number w u) ≡ u = residue-number w u (next_lt w last v) in
    ap (λ r. mapped w (difference w last r) ∷ differences w r (numbers_from w u vs)) back ∙ ap (λ d. d ∷ differences w u (numbers_from w u vs)) (mapped-next w last v is h all.0) ∙ ap (λ l. v ∷ l) (differences-numbers_from w u vs is (next_lt w last v) all.1)

pub numbers_from-differences : (w last : ℕ) (xs : List ℤ) → IsWidth w → last < 2 ^ w → AllByRecursion (IsNumber w) xs → numbers_from w last (differences w last xs) ≡ xs
numbers_from-differences w last [] is h all = refl
numbers_from-differences w last (x ∷ xs) is h all =
    let r = residue w x in
    let next : next_residue w last (mapped w (difference w last r)) ≡ r = next-mapped w last r is h (residue_lt w x) in
    ap (λ u. number w u ∷ numbers_from w u (differences w r xs)) next ∙ ap (λ y. y ∷ numbers_from w r (differences w r xs)) (number-residue w x is all.0) ∙ ap (λ l. x ∷ l) (numbers_from-differences w r xs is (residue_lt w x) all.1)
