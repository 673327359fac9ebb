-- Where a file ends no HDU begins, so it ends with the last (FITS 4.0, section 3.1).
use Rattle.std.proofs.Common.{◌≡◌, ◌≢◌, ℕ, ◌+◌, ◌<◌, ◌≤◌, ◌⊎◌, inl, inr, Bool, true, false, List, ◌∷◌, length, Some, Result, Ok, Err, refl, sym, ap, ◌∙◌, arith}
use Rattle.std.proofs.lemmas.Bool.Decides.{eqb_tells, nat_tests}
use Rattle.std.proofs.Math.Bool.{beq}
use Rattle.std.proofs.Math.Dec.{eqb}
use Rattle.std.specs.Prelude.{Option, ◌&&◌, not, nat_le, nat_lt, bytes_eq, codes, take, drop}
use Rattle.fz_base.specs.Refusal.{first_refusal, refusal}
use Rattle.fz_base.specs.declared.fault.Fault.{Fault}
use Rattle.fz_base.specs.declared.fault.Place.TheVariants.{Byte}
use Rattle.fz_base.specs.declared.kind.Kind.TheVariants.{Limit, TrailingBytes, Truncated}
use Rattle.fz_block.specs.Cards.{end_of}
use Rattle.fz_block.specs.Checks.{block_checks, blocks_to_end, header_room, hdu_at, header_blocks_of, header_in, unless_refused}
use Rattle.fz_block.specs.declared.header.Header.{Header}

-- a check after two others refuses
third : (a b c : Bool) (x y z : Fault) (checks : List (Bool × Fault)) → c ≡ true → (f : Fault) × (first_refusal ((a, x) ∷ (b, y) ∷ (c, z) ∷ checks) ≡ Some f)
third true b c x y z checks is = (x, refl)
third false true c x y z checks is = (y, refl)
third false false true x y z checks is = (z, refl)
third false false false x y z checks is = absurd cc

never_read : (k start blocks : ℕ) (file : List ℕ) (checks : List (Bool × Fault)) (h : Header) → (f : Fault) × (first_refusal checks ≡ Some f) →
    header_in k start file (unless_refused blocks (first_refusal checks)) ≡ Ok h → ⊥
never_read k start blocks file checks h refused found =
    let never : ◌≡◌ {A = Result Header Fault} (Err refused.0) (Ok h) = sym (ap (λ (r : Option Fault). header_in k start file (unless_refused blocks r)) refused.1) ∙ found in
    cc

-- no HDU begins there
pub none_there : (k : ℕ) (file : List ℕ) (h : Header) → hdu_at k (length file) file ≡ Ok h → ⊥
unfolding hdu_at header_blocks_of
none_there k file h found =
    let past : nat_lt (length file) (length file + 2880) ≡ true = grind (arith, nat_tests) in
    never_read k (length file) (blocks_to_end (end_of (header_room (length file) file))) file (block_checks k (length file) file) h (third (nat_le 65536 k) (nat_lt 0 k && not (bytes_eq (take 8 (drop (length file) file)) (codes "XTENSION"))) (nat_lt (length file) (length file + 2880))
    (refusal k (Byte (length file)) Limit) (refusal k (Byte (length file)) TrailingBytes) (refusal k (Byte (length file)) Truncated) (drop 3 (block_checks k (length file) file)) past) found

-- ---- two tests: whether an HDU ends the file, and whether it is the last

-- what a test of two numbers tells
abbrev Tells : ℕ → ℕ → Type 0
Tells a b = ((eqb a b ≡ true) × (a ≡ b)) ⊎ ((eqb a b ≡ false) × (a ≢ b))

-- tests of which each follows from the other agree
pub tests_agree : (start len k hdus : ℕ) → (start ≡ len → k ≡ hdus) → (k ≡ hdus → start ≡ len) → eqb start len ≡ eqb k hdus
tests_agree start len k hdus to from = by (eqb_tells start len) (eqb_tells k hdus)
  where
    by : Tells start len → Tells k hdus → eqb start len ≡ eqb k hdus
    by (inl (p, e)) (inl (q, f)) = p ∙ sym q
    by (inl (p, e)) (inr (q, f)) = absurd (f (to e))
    by (inr (p, e)) (inl (q, f)) = absurd (e (from f))
    by (inr (p, e)) (inr (q, f)) = p ∙ sym q

-- tests that agree do not differ
pub tests_differ : (a b : Bool) → not (beq a b) ≡ true → a ≡ b → ⊥
tests_differ true true differ same = cc
tests_differ true false differ same = cc
tests_differ false true differ same = cc
tests_differ false false differ same = cc

-- where they agree, an HDU that is not the last does not end the file
pub not_at_end : (start len k hdus : ℕ) → not (beq (eqb start len) (eqb k hdus)) ≡ false → k < hdus → start ≤ len → start < len
not_at_end start len k hdus agree few inside = by (eqb_tells start len) (eqb_tells k hdus)
  where
    by : Tells start len → Tells k hdus → start < len
    by (inl (p, e)) (inl (q, f)) = absurd (omega (arith, f, few))
    by (inl (p, e)) (inr (q, f)) =
        let never : ◌≡◌ {A = Bool} true false = sym (λ i. not (beq (p i) (q i))) ∙ agree in
        absurd cc
    by (inr (p, e)) q = omega (arith, e, inside)
