-- The number of binary digits, and the id that is chosen.
use Rattle.std.proofs.Common.{◌≡◌, ℕ, zero, suc, ◌+◌, ◌-◌, ◌*◌, ◌/◌, ◌^◌, ◌<◌, ◌≤◌, min, inl, inr, refl, sym, ap, ◌∙◌, arith, add-one}
use Rattle.std.specs.Int.Count.{count_leading_zeros}
use Rattle.std.proofs.Math.Nat.{pow-suc, min-eq_left, min-eq_right}
use Rattle.std.proofs.lemmas.Bool.{cases_lt, cases_eq}
use Rattle.std.proofs.lemmas.Nat.{leading_length, pow_pos}
use Rattle.fz_rice.specs.Code.{row}
use Rattle.fz_rice.specs.Producer.{halvings, binary_len, chosen_k, chosen_id}
use Rattle.fz_rice.proofs.FieldReaders.{lt-true, lt-false}
use Rattle.fz_rice.proofs.BlockReaders.{eq-true, eq-false}

no_digits : (m : ℕ) → 2 ^ m ≤ 1 → m ≡ 0
no_digits zero h = refl
no_digits (suc m) h =
    let twice : 2 ^ suc m ≡ 2 ^ m * 2 = pow-suc 2 m in
    let pos = pow_pos m in
    absurd (omega arith)

halvings-zero : (n q : ℕ) → q ≡ 0 → halvings n q ≡ 0
halvings-zero zero q h = refl
halvings-zero (suc n) q h = rw (eq-true q 0 h) refl

halvings-more : (n q : ℕ) → (q ≡ 0 → ⊥) → halvings (suc n) q ≡ halvings n (q / 2) + 1
halvings-more n q h = rw (eq-false q 0 h) refl

halvings-is : (n m q : ℕ) → q ≤ n → q < 2 ^ m → 2 ^ m ≤ 2 * q + 1 → halvings n q ≡ m
halvings-is zero m q few high low = sym (no_digits m (omega arith))
halvings-is (suc n) zero q few high low = halvings-zero (suc n) q (omega arith)
halvings-is (suc n) (suc m) q few high low =
    let twice : 2 ^ suc m ≡ 2 ^ m * 2 = pow-suc 2 m in
    let pos = pow_pos m in
    halvings-more n q (λ e. absurd (omega (arith, e))) ∙ ap (λ k. k + 1) (halvings-is n m (q / 2) (omega arith) (omega arith) (omega arith)) ∙ add-one m

pub binary_len-is : (q : ℕ) → q < 2 ^ 64 → binary_len q ≡ 64 - count_leading_zeros 64 q
binary_len-is q h =
    let len = leading_length 64 q h in
    halvings-is q len.0 q (omega arith) len.2 len.3 ∙ omega (arith, len.1)

pub chosen_id-zero : (w count total : ℕ) → total ≡ 0 → chosen_id w count total ≡ 0
chosen_id-zero w count total h = rw (eq-true total 0 h) refl

pub chosen_id-some : (w count total : ℕ) → (total ≡ 0 → ⊥) → chosen_id w count total ≡ min (chosen_k count total + 1) (row w).raw_id
chosen_id-some w count total h = elim (cases_lt (chosen_k count total + 1) (row w).raw_id) [
  | inl less ↦ rw (eq-false total 0 h, lt-true (chosen_k count total + 1) (row w).raw_id less) (sym (min-eq_left (omega arith)))
  | inr more ↦ rw (eq-false total 0 h, lt-false (chosen_k count total + 1) (row w).raw_id more) (sym (min-eq_right more))
]

pub chosen_id_le : (w count total : ℕ) → chosen_id w count total ≤ (row w).raw_id
chosen_id_le w count total = elim (cases_eq total 0) [
  | inl none ↦ omega (arith, chosen_id-zero w count total none)
  | inr some ↦ omega (arith, chosen_id-some w count total some)
]
