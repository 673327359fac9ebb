-- The numbers of a code fit 32 bits.
use Rattle.std.proofs.Common.{◌≡◌, ℕ, zero, suc, ◌-◌, ◌^◌, ◌<◌, ℤ, pos, negsuc, Bool, List, [], ◌∷◌, ◌++◌, length, replicate, inl, inr, refl, sym, subst, arith}
use Rattle.std.specs.List.{All, AllByRecursion}
use Rattle.std.proofs.lemmas.Bool.{cases_lt}
use Rattle.std.proofs.lemmas.List.Elements.{All-from_recursion}
use Rattle.fz_bits.specs.Numbers.{IsNumber}
use Rattle.fz_rice.specs.Numbers.{IsWidth}
use Rattle.fz_plio.specs.Instructions.{Instruction}
use Rattle.fz_plio.specs.Meaning.{effect, written, expand, SomeLeavesRange, AreRefused, IsRefused, IsLineList, instructions_of, line_of}
use Rattle.fz_rice.specs.Prefix.{BeginsWith}

all_append : (P : ℤ → Type 0) (xs ys : List ℤ) → AllByRecursion P xs → AllByRecursion P ys → AllByRecursion P (xs ++ ys)
all_append P [] ys a b = b
all_append P (x ∷ xs) ys a b = (a.0, all_append P xs ys a.1 b)

all_replicate : (P : ℤ → Type 0) (n : ℕ) (x : ℤ) → P x → AllByRecursion P (replicate n x)
all_replicate P zero x p = tt
all_replicate P (suc n) x p = (p, all_replicate P n x p)

word : (n : ℕ) → n < 2 ^ 24 → IsNumber 32 (pos n)
word n small = omega (arith, small)

expand-words : (h : ℕ) (is : List Instruction) → (SomeLeavesRange h is → ⊥) → AllByRecursion (IsNumber 32) (expand h is)
unfolding expand SomeLeavesRange
expand-words h [] stays = tt
expand-words h (i ∷ rest) stays =
    let e = effect h i in
    let high : e.high < 2 ^ 24 = elim (cases_lt e.high (2 ^ 24)) [ inl small ↦ small | inr great ↦ absurd (stays (inl (inr great))) ] in
    all_append (IsNumber 32) (written e) (expand e.high rest)
    (all_append (IsNumber 32) (replicate e.zeros (pos 0)) (replicate e.highs (pos e.high)) (all_replicate (IsNumber 32) e.zeros (pos 0) (word 0 (omega arith))) (all_replicate (IsNumber 32) e.highs (pos e.high) (word e.high high)))
    (expand-words e.high rest (λ later. stays (inr later)))

pub line_words : (n : ℕ) (read : List ℕ) (xs : List ℤ) → IsLineList n read xs → All (IsNumber 32) xs
line_words n read xs line =
    let is = instructions_of read in
    let each : AllByRecursion (IsNumber 32) (line_of n is) =
    all_append (IsNumber 32) (expand 1 is) (replicate (n - length (expand 1 is)) (pos 0))
    (expand-words 1 is (λ leaves. line.lawful (IsRefused.instruction (AreRefused.out_of_range leaves))))
    (all_replicate (IsNumber 32) (n - length (expand 1 is)) (pos 0) (word 0 (omega arith))) in
    subst (All (IsNumber 32)) (sym line.meaning) (All-from_recursion (IsNumber 32) (line_of n is) each)

from_8 : (z : ℤ) → IsNumber 8 z → IsNumber 32 z
from_8 (pos n) is = omega (arith, is)
from_8 (negsuc n) is = absurd (is.0 refl)

from_16 : (z : ℤ) → IsNumber 16 z → IsNumber 32 z
from_16 (pos n) is = omega (arith, is)
from_16 (negsuc n) is = (λ (e : 32 ≡ 8). omega (arith, e), omega (arith, is.1))

from_width : (w : ℕ) (z : ℤ) → IsWidth w → IsNumber w z → IsNumber 32 z
from_width w z is number = elim is [
  | inl e ↦ from_8 z (subst (λ (k : ℕ). IsNumber k z) e number)
  | inr f ↦ elim f [ inl e ↦ from_16 z (subst (λ (k : ℕ). IsNumber k z) e number) | inr e ↦ subst (λ (k : ℕ). IsNumber k z) e number ]
]

pub rice_words : (w block bytes : ℕ) (bits : List Bool) (xs : List ℤ) → IsWidth w → BeginsWith w block xs bytes bits → All (IsNumber 32) xs
rice_words w block bytes bits xs is r k d h = from_width w _ is (r.is_code.numbers k d h)
