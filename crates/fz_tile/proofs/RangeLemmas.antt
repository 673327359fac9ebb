-- Numbers in range, one after another.
use Rattle.std.proofs.Common.{refl, ◌≡◌, ℕ, ◌+◌, ◌<◌, ◌↔◌, Bool, true, false, List, length, get_or, ℤ, pos, negsuc, inl, inr, sym, subst, arith, unsigned_abs}
use Rattle.std.specs.List.{All}
use Rattle.std.specs.Prelude.{◌&&◌, IsTrue}
use Rattle.std.proofs.lemmas.Bool.{cases_lt}
use Rattle.std.proofs.lemmas.List.{get_or_default}
use Rattle.fz_bits.specs.Numbers.{IsNumber}
use Rattle.fz_tile.specs.Pixels.{IsBitpix}
use Rattle.fz_tile.proofs.PixelLemmas.{by_bitpix}

-- one more number is in range
one_more : (w i : ℕ) (xs : List ℤ) → i < length xs → ((k : ℕ) (d : ℤ) → k < i → IsNumber w (get_or xs k d)) → IsNumber w (get_or xs i (pos 0)) → (k : ℕ) (d : ℤ) → k < i + 1 → IsNumber w (get_or xs k d)
one_more w i xs within before here k d h = elim (cases_lt k i) [
  | inl less ↦ before k d less
  | inr same ↦
      let e : k ≡ i = omega arith in
      subst (λ (j : ℕ). IsNumber w (get_or xs j d)) (sym e) (subst (IsNumber w) (get_or_default xs i (pos 0) d within) here)
]

and_true : (a b : Bool) → a ≡ true → b ≡ true → (a && b) ≡ true
and_true true b x y = y
and_true false b x y = absurd (let h : ⊥ = cc in h)

and_parts : (a b : Bool) → (a && b) ≡ true → (a ≡ true) × (b ≡ true)
and_parts true b x = (refl, x)
and_parts false b x = absurd (let h : ⊥ = cc in h)

-- all numbers so far are in range, and one more
pub one_more_looked : (w i : ℕ) (xs : List ℤ) (fine here : Bool) → i < length xs → (IsTrue fine ↔ ((k : ℕ) (d : ℤ) → k < i → IsNumber w (get_or xs k d))) → (IsTrue here ↔ IsNumber w (get_or xs i (pos 0))) →
    IsTrue (fine && here) ↔ ((k : ℕ) (d : ℤ) → k < i + 1 → IsNumber w (get_or xs k d))
one_more_looked w i xs fine here within before now = (
  λ both. let parts = and_parts fine here both in one_more w i xs within (before.0 parts.0) (now.0 parts.1),
  λ all. and_true fine here (before.1 (λ k d h. all k d (omega (arith, h)))) (now.1 (all i (pos 0) (omega arith))),
)

-- a number of 32 bits is one of 64 bits
wider : (z : ℤ) → IsNumber 32 z → IsNumber 64 z
wider (pos n) is = omega (arith, is)
wider (negsuc n) is = (λ (e : 64 ≡ 8). omega (arith, e), omega (arith, is.1))

-- what was found at 8 and 16 bits is the answer; other sizes have all numbers of 32 bits
pub in_bytes : (bitpix : ℤ) (xs : List ℤ) → bitpix ≡ pos 8 → All (IsNumber 8) xs → All (IsNumber (unsigned_abs bitpix)) xs
in_bytes bitpix xs e all = subst (λ (b : ℤ). All (IsNumber (unsigned_abs b)) xs) (sym e) all

pub in_shorts : (bitpix : ℤ) (xs : List ℤ) → bitpix ≡ pos 16 → All (IsNumber 16) xs → All (IsNumber (unsigned_abs bitpix)) xs
in_shorts bitpix xs e all = subst (λ (b : ℤ). All (IsNumber (unsigned_abs b)) xs) (sym e) all

pub in_words : (bitpix : ℤ) (xs : List ℤ) → IsBitpix bitpix → (bitpix ≡ pos 8 → ⊥) → (bitpix ≡ pos 16 → ⊥) → All (IsNumber 32) xs → All (IsNumber (unsigned_abs bitpix)) xs
in_words bitpix xs size no_byte no_short all =
    by_bitpix (λ z. (z ≡ pos 8 → ⊥) → (z ≡ pos 16 → ⊥) → All (IsNumber (unsigned_abs z)) xs)
    (λ f _. absurd (f refl)) (λ _ f. absurd (f refl)) (λ _ _. all) (λ _ _ k d h. wider (get_or xs k d) (all k d h)) bitpix size no_byte no_short
