-- Whether an HDU ends the file, and whether it is the last: two tests, which agree or not.
use Rattle.std.proofs.Common.{◌≡◌, ◌≢◌, ℕ, ◌<◌, ◌≤◌, ◌⊎◌, inl, inr, Bool, true, false, sym, ◌∙◌, arith}
use Rattle.std.proofs.lemmas.Bool.Decides.{eqb_tells}
use Rattle.std.proofs.Math.Bool.{beq}
use Rattle.std.proofs.Math.Dec.{eqb}
use Rattle.std.specs.Prelude.{not}

-- what a test of two numbers tells
abbrev Tells : ℕ → ℕ → Type 0
Tells a b = ((eqb a b ≡ true) × (a ≡ b)) ⊎ ((eqb a b ≡ false) × (a ≢ b))

-- tests of which each follows from the other agree
pub tests_agree : (start len k hdus : ℕ) → (start ≡ len → k ≡ hdus) → (k ≡ hdus → start ≡ len) → eqb start len ≡ eqb k hdus
tests_agree start len k hdus to from = by (eqb_tells start len) (eqb_tells k hdus)
  where
    by : Tells start len → Tells k hdus → eqb start len ≡ eqb k hdus
    by (inl (p, e)) (inl (q, f)) = p ∙ sym q
    by (inl (p, e)) (inr (q, f)) = absurd (f (to e))
    by (inr (p, e)) (inl (q, f)) = absurd (e (from f))
    by (inr (p, e)) (inr (q, f)) = p ∙ sym q

-- tests that agree do not differ
pub tests_differ : (a b : Bool) → not (beq a b) ≡ true → a ≡ b → ⊥
tests_differ true true differ same = cc
tests_differ true false differ same = cc
tests_differ false true differ same = cc
tests_differ false false differ same = cc

-- where they agree, an HDU that is not the last does not end the file
pub not_at_end : (start len k hdus : ℕ) → not (beq (eqb start len) (eqb k hdus)) ≡ false → k < hdus → start ≤ len → start < len
not_at_end start len k hdus agree few inside = by (eqb_tells start len) (eqb_tells k hdus)
  where
    by : Tells start len → Tells k hdus → start < len
    by (inl (p, e)) (inl (q, f)) = absurd (omega (arith, f, few))
    by (inl (p, e)) (inr (q, f)) =
        let never : ◌≡◌ {A = Bool} true false = sym (λ i. not (beq (p i) (q i))) ∙ agree in
        absurd cc
    by (inr (p, e)) q = omega (arith, e, inside)
