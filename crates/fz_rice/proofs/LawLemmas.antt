-- The producer's code is a code, and a code has one list of numbers.
use Rattle.std.proofs.Common.{◌≡◌, ℕ, ◌/◌, ◌^◌, ◌<◌, ◌≤◌, Bool, false, ℤ, List, [], ◌∷◌, ◌++◌, length, replicate, sum, Ok, inl, inr, refl, sym, subst, ap, ◌∙◌, arith, append_assoc, length-append}
use Rattle.std.specs.List.{flat_map, All}
use Rattle.std.proofs.lemmas.Bool.{cases_eq}
use Rattle.std.proofs.lemmas.List.{length-replicate}
use Rattle.std.proofs.lemmas.List.Sums.{sum_by-cons}
use Rattle.std.proofs.lemmas.Nat.{pow_pos}
use Rattle.fz_bits.specs.Bits.{fill_len}
use Rattle.fz_bits.specs.Laws.{NumberLaws}
use Rattle.fz_rice.specs.Numbers.{IsWidth, IsNumber}
use Rattle.fz_rice.specs.Code.{row, differences, pieces, CanHold, AreBlocks, IsRiceCode}
use Rattle.fz_rice.specs.Producer.{chosen_id, chosen_block, first_residue, rice_bits, rice_code}
use Rattle.fz_rice.specs.Prefix.{BeginsWith}
use Rattle.fz_rice.specs.Reading.{code_at}
use Rattle.fz_rice.proofs.Readers.{one_code, ok_parts}
use Rattle.fz_rice.proofs.CodeReaders.{RiceCodes, code_reader}
use Rattle.fz_rice.proofs.NumbersLemmas.{residue_lt}
use Rattle.fz_rice.proofs.ProducerLemmas.{chosen_id-some, chosen_id_le}

pub one_code_is : NumberLaws → (w block : ℕ) (xs ys : List ℤ) (code rest : List Bool) → IsWidth w → 1 ≤ block → length xs ≡ length ys → IsRiceCode w block xs code → IsRiceCode w block ys (code ++ rest) → (xs ≡ ys) × (rest ≡ [])
one_code_is laws w block xs ys code rest is some same x y =
    one_code (RiceCodes w block (length ys)) (code_at w block (length ys)) (code_reader laws w block (length ys) is (omega arith)) xs ys code rest (same, x) (refl, y)

sum-zero : (vs : List ℕ) → sum vs ≡ 0 → vs ≡ replicate (length vs) 0
sum-zero [] none = refl
sum-zero (v ∷ vs) none =
    let parts = sum_by-cons (λ x. x) v vs in
    let first : v ≡ 0 = omega arith in
    let rest : sum vs ≡ 0 = omega arith in
    ap (λ x. x ∷ vs) first ∙ ap (λ l. 0 ∷ l) (sum-zero vs rest)

raw_pos : (w : ℕ) → IsWidth w → 0 < (row w).raw_id
raw_pos w is = elim is [
  | inl e ↦ subst (λ (x : ℕ). 0 < (row x).raw_id) (sym e) (omega arith)
  | inr f ↦ elim f [
    | inl e ↦ subst (λ (x : ℕ). 0 < (row x).raw_id) (sym e) (omega arith)
    | inr e ↦ subst (λ (x : ℕ). 0 < (row x).raw_id) (sym e) (omega arith)
  ]
]

-- the chosen id can hold its block
chosen_holds : (w : ℕ) (vs : List ℕ) → IsWidth w → CanHold w (chosen_id w (length vs) (sum vs)) vs
chosen_holds w vs is = (
  chosen_id_le w (length vs) (sum vs),
  λ none. elim (cases_eq (sum vs) 0) [
    | inl nothing ↦ sum-zero vs nothing
    | inr some ↦ absurd (omega (arith, none, chosen_id-some w (length vs) (sum vs) some, raw_pos w is))
  ],
)

chosen_are_blocks : (w : ℕ) (ps : List (List ℕ)) → IsWidth w → AreBlocks w ps (flat_map (chosen_block w) ps)
chosen_are_blocks w [] is = refl
chosen_are_blocks w (vs ∷ ps) is =
    (chosen_id w (length vs) (sum vs), flat_map (chosen_block w) ps, chosen_holds w vs is, chosen_are_blocks w ps is, refl)

first_fits : (w : ℕ) (xs : List ℤ) → first_residue w xs < 2 ^ w
first_fits w [] = pow_pos w
first_fits w (x ∷ xs) = residue_lt w x

pub producer_is : (w block : ℕ) (xs : List ℤ) → IsWidth w → All (IsNumber w) xs → IsRiceCode w block xs (rice_bits w block xs)
producer_is w block xs is all = record {
  numbers = all;
  start = first_residue w xs;
  start_fits = first_fits w xs;
  blocks = flat_map (chosen_block w) (pieces block (differences w (first_residue w xs) xs));
  are_blocks = chosen_are_blocks w (pieces block (differences w (first_residue w xs) xs)) is;
  is = refl;
}

pub round_trip_is : NumberLaws → (w block : ℕ) (xs ys : List ℤ) (rest : List Bool) (bytes : ℕ) → IsWidth w → 1 ≤ block → All (IsNumber w) xs → length ys ≡ length xs → BeginsWith w block ys bytes (rice_code w block xs ++ rest) → (ys ≡ xs) × (bytes ≡ length (rice_code w block xs) / 8)
round_trip_is laws w block xs ys rest bytes is some all same b =
    let reader = code_reader laws w block (length xs) is (omega arith) in
    let bits = rice_bits w block xs in
    let fill = replicate (fill_len (length bits)) false in
    let mine : code_at w block (length xs) (rice_code w block xs ++ rest) ≡ Ok (xs, fill ++ rest) = ap (code_at w block (length xs)) (append_assoc bits fill rest) ∙ reader.complete xs bits (fill ++ rest) (refl, producer_is w block xs is all) in
    let theirs : code_at w block (length xs) (rice_code w block xs ++ rest) ≡ Ok (ys, b.rest) = ap (code_at w block (length xs)) b.is ∙ reader.complete ys b.code b.rest (same, b.is_code) in
    let parts = ok_parts ys xs b.rest (fill ++ rest) (sym theirs ∙ mine) in
    let whole = ap length b.is ∙ length-append b.code b.rest in
    let sizes = length-append (rice_code w block xs) rest in
    let size = length-append bits fill in
    let filled = length-replicate (fill_len (length bits)) false in
    let left = ap length parts.1 ∙ length-append fill rest in
    (parts.0, b.len ∙ omega arith)
