-- Numbers in range, one after another, and places that hold pixels.
use Rattle.std.proofs.Common.{◌≡◌, ℕ, ◌+◌, ◌<◌, ◌↔◌, Bool, true, false, ℤ, pos, List, length, get_or, inl, inr, refl, sym, subst, arith, unsigned_abs}
use Rattle.std.specs.List.{All}
use Rattle.std.specs.Prelude.{◌&&◌, IsTrue}
use Rattle.std.proofs.lemmas.Bool.{cases_lt}
use Rattle.std.proofs.lemmas.List.{get_or_default}
use Rattle.fz_bits.specs.Numbers.{IsNumber}
use Rattle.fz_tile.specs.Pixels.{IsBitpix, HoldWhole}
use Rattle.fz_c.specs.Asked.{HoldSome}
use Rattle.fz_c.proofs.PairLemmas.{hold_pairs, pairs_fit}

-- one more number is in range
one_more : (w i : ℕ) (xs : List ℤ) → i < length xs → ((k : ℕ) (d : ℤ) → k < i → IsNumber w (get_or xs k d)) → IsNumber w (get_or xs i (pos 0)) → (k : ℕ) (d : ℤ) → k < i + 1 → IsNumber w (get_or xs k d)
one_more w i xs within before here k d h = elim (cases_lt k i) [
  | inl less ↦ before k d less
  | inr same ↦
      let e : k ≡ i = omega arith in
      subst (λ (j : ℕ). IsNumber w (get_or xs j d)) (sym e) (subst (IsNumber w) (get_or_default xs i (pos 0) d within) here)
]

and_true : (a b : Bool) → a ≡ true → b ≡ true → (a && b) ≡ true
and_true true b x y = y
and_true false b x y = absurd (let h : ⊥ = cc in h)

and_parts : (a b : Bool) → (a && b) ≡ true → (a ≡ true) × (b ≡ true)
and_parts true b x = (refl, x)
and_parts false b x = absurd (let h : ⊥ = cc in h)

-- all numbers so far are in range, and one more
pub one_more_looked : (w i : ℕ) (xs : List ℤ) (fine here : Bool) → i < length xs → (IsTrue fine ↔ ((k : ℕ) (d : ℤ) → k < i → IsNumber w (get_or xs k d))) → (IsTrue here ↔ IsNumber w (get_or xs i (pos 0))) →
    IsTrue (fine && here) ↔ ((k : ℕ) (d : ℤ) → k < i + 1 → IsNumber w (get_or xs k d))
one_more_looked w i xs fine here within before now = (
  λ both. let parts = and_parts fine here both in one_more w i xs within (before.0 parts.0) (now.0 parts.1),
  λ all. and_true fine here (before.1 (λ k d h. all k d (omega (arith, h)))) (now.1 (all i (pos 0) (omega arith))),
)

-- places hold pixels if their numbers are in the range of BITPIX, or of 32 bits if that is 64
pub holds_8 : (bitpix : ℤ) (numbers : List ℤ) → bitpix ≡ pos 8 → HoldSome (unsigned_abs bitpix) numbers ↔ All (IsNumber 8) numbers
holds_8 bitpix numbers e = subst (λ (z : ℤ). HoldSome (unsigned_abs z) numbers ↔ All (IsNumber 8) numbers) (sym e)
    (λ (xs, hold). subst (All (IsNumber 8)) (sym hold.are) hold.pixels, λ all. (numbers, record { pixels = all; are = refl }))

pub holds_16 : (bitpix : ℤ) (numbers : List ℤ) → bitpix ≡ pos 16 → HoldSome (unsigned_abs bitpix) numbers ↔ All (IsNumber 16) numbers
holds_16 bitpix numbers e = subst (λ (z : ℤ). HoldSome (unsigned_abs z) numbers ↔ All (IsNumber 16) numbers) (sym e)
    (λ (xs, hold). subst (All (IsNumber 16)) (sym hold.are) hold.pixels, λ all. (numbers, record { pixels = all; are = refl }))

holds_32 : (numbers : List ℤ) → HoldSome 32 numbers ↔ All (IsNumber 32) numbers
holds_32 numbers = (λ (xs, hold). subst (All (IsNumber 32)) (sym hold.are) hold.pixels, λ all. (numbers, record { pixels = all; are = refl }))

pub holds_others : (bitpix : ℤ) (numbers : List ℤ) → IsBitpix bitpix → (bitpix ≡ pos 8 → ⊥) → (bitpix ≡ pos 16 → ⊥) → HoldWhole (unsigned_abs bitpix) (length numbers)
    → HoldSome (unsigned_abs bitpix) numbers ↔ All (IsNumber 32) numbers
holds_others bitpix numbers size no_byte no_short whole = elim size [
  | inl e ↦ absurd (no_byte e)
  | inr s ↦ elim s [
    | inl e ↦ absurd (no_short e)
    | inr s ↦ elim s [
      | inl e ↦ subst (λ (z : ℤ). HoldSome (unsigned_abs z) numbers ↔ All (IsNumber 32) numbers) (sym e) (holds_32 numbers)
      | inr e ↦ subst (λ (z : ℤ). HoldWhole (unsigned_abs z) (length numbers) → HoldSome (unsigned_abs z) numbers ↔ All (IsNumber 32) numbers) (sym e)
          (λ even. (λ (xs, hold). pairs_fit xs numbers hold, λ all. hold_pairs numbers all even)) whole
    ]
  ]
]
