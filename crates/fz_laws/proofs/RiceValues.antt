-- Readers of a value in unary and binary, of many values, and of an id.
use Rattle.std.proofs.Common.{◌≡◌, ℕ, zero, suc, ◌+◌, ◌-◌, ◌*◌, ◌/◌, ◌%◌, ◌^◌, ◌<◌, ◌≤◌, Bool, true, false, List, [], ◌∷◌, ◌++◌, length, replicate, Ok, inl, inr, refl, sym, subst, ap, ◌∙◌, arith, append_assoc}
use Rattle.std.specs.List.{flat_map, AllByRecursion}
use Rattle.std.proofs.Math.Nat.{mul-le-mul_right, le-div_iff_mul-le}
use Rattle.std.proofs.lemmas.Bool.{cases_lt}
use Rattle.std.proofs.lemmas.Nat.{pow_pos, pow-add, shr_high, mod_low, mod_below, shr_split, le-div}
use Rattle.fz_bits.specs.Bits.{number_bits}
use Rattle.fz_laws.proofs.RiceBits.{number_bits-mod}
use Rattle.fz_rice.specs.Reading.{Reading, reading_map, number_at, zeros_at, most_zeros, split_at, many_at}
use Rattle.fz_rice.specs.Code.{split_bits}
use Rattle.fz_laws.proofs.RiceReaders.{IsReader, SeqCodes, MapCodes, seq_reader, map_reader, same_reader, ok_parts}
use Rattle.fz_laws.proofs.RiceFields.{NumberCodes, number_reader, ZerosCodes, zeros_reader}

below_times : (a b c : ℕ) → a * c < b * c → a < b
below_times a b c h =
    elim (cases_lt a b) [
      | inl less ↦ less
      | inr more ↦
          let k : b * c ≤ a * c = mul-le-mul_right c more in
          absurd (omega (arith, k))
    ]

-- a quotient and a rest within bounds make a value of w bits
pub value_lt : (w k q low : ℕ) → k ≤ w → q ≤ most_zeros w k → low < 2 ^ k → q * 2 ^ k + low < 2 ^ w
value_lt w k q low h most small =
    let e : 2 ^ w ≡ 2 ^ (w - k) * 2 ^ k = ap (λ j. 2 ^ j) (omega arith) ∙ pow-add 2 (w - k) k in
    let times : q * 2 ^ k ≤ 2 ^ w - 1 = (le-div_iff_mul-le (pow_pos k)).0 most in
    let pos : 0 < 2 ^ w = pow_pos w in
    let less : q < 2 ^ (w - k) = below_times q (2 ^ (w - k)) (2 ^ k) (omega (arith, times, pos, e)) in
    let more : (q + 1) * 2 ^ k ≤ 2 ^ (w - k) * 2 ^ k = mul-le-mul_right (2 ^ k) (omega arith) in
    omega (arith, more, e)

pub quotient_le : (w k v : ℕ) → v < 2 ^ w → v / 2 ^ k ≤ most_zeros w k
quotient_le w k v h =
    le-div (v / 2 ^ k) (2 ^ w - 1) (2 ^ k) (pow_pos k) (omega (arith, shr_split v k))

abbrev pub SplitCodes : ℕ → ℕ → ℕ → List Bool → Type 0
SplitCodes w k v code = (v < 2 ^ w) × (code ≡ split_bits k v)

split_joined : (k q low : ℕ) → low < 2 ^ k → (replicate q false ++ true ∷ []) ++ number_bits k low ≡ split_bits k (q * 2 ^ k + low)
split_joined k q low h =
    append_assoc (replicate q false) (true ∷ []) (number_bits k low) ∙ ap (λ n. replicate n false ++ true ∷ number_bits k low) (sym (shr_high q k low h)) ∙ ap (λ bits. replicate ((q * 2 ^ k + low) / 2 ^ k) false ++ true ∷ bits) (ap (number_bits k) (sym (mod_low q k low h)) ∙ number_bits-mod k (q * 2 ^ k + low))

pub split_reader : (w k : ℕ) → k ≤ w → IsReader (SplitCodes w k) (split_at w k)
split_reader w k h =
    let Next : ℕ → ℕ → List Bool → Type 0 = λ q. MapCodes (λ low. q * 2 ^ k + low) (NumberCodes k) in
    same_reader (SeqCodes (ZerosCodes (most_zeros w k)) Next) (SplitCodes w k) (split_at w k)
    (λ v code is.
    let low = is.4.0 in
    let value = is.4.2 in
    (subst (λ (x : ℕ). x < 2 ^ w) value (value_lt w k is.0 low h is.3.0 is.4.1.0), is.5 ∙ ap (λ front. front ++ is.2) is.3.1 ∙ ap (λ back. (replicate is.0 false ++ true ∷ []) ++ back) is.4.1.1 ∙ split_joined k is.0 low is.4.1.0 ∙ ap (split_bits k) value))
    (λ v code is.
    let q = v / 2 ^ k in
    let low = v % 2 ^ k in
    let small : low < 2 ^ k = mod_below v (2 ^ k) (pow_pos k) in
    (q, replicate q false ++ true ∷ [], number_bits k low, (quotient_le w k v is.0, refl), (low, (small, refl), shr_split v k), is.1 ∙ ap (split_bits k) (sym (shr_split v k)) ∙ sym (split_joined k q low small)))
    (seq_reader (ZerosCodes (most_zeros w k)) Next (zeros_at (most_zeros w k)) (λ q rest. reading_map (λ low. q * 2 ^ k + low) (number_at k rest)) (zeros_reader (most_zeros w k)) (λ q code is. map_reader (λ low. q * 2 ^ k + low) (NumberCodes k) (number_at k) (number_reader k)))

abbrev pub ManyCodes : (ℕ → Type 0) → (ℕ → List Bool) → ℕ → List ℕ → List Bool → Type 0
ManyCodes P f n vs code = (length vs ≡ n) × AllByRecursion P vs × (code ≡ flat_map f vs)

nil_case : (f : ℕ → List Bool) (vs : List ℕ) (code rest : List Bool) → length vs ≡ 0 → code ≡ flat_map f vs → ◌≡◌ {A = Reading (List ℕ)} (Ok ([], code ++ rest)) (Ok (vs, rest))
nil_case f [] code rest len is = ap (λ bits. Ok ([], bits ++ rest)) is
nil_case f (v ∷ vs) code rest len is = absurd (omega (arith, len))

cons_case : (P : ℕ → Type 0) (f : ℕ → List Bool) (n : ℕ) (vs : List ℕ) (code : List Bool) → ManyCodes P f (suc n) vs code → SeqCodes (λ v front. P v × (front ≡ f v)) (λ v. MapCodes (λ more. v ∷ more) (ManyCodes P f n)) vs code
cons_case P f n [] code is = absurd (omega (arith, is.0))
cons_case P f n (v ∷ vs) code is =
    (v, f v, flat_map f vs, (is.1.0, refl), (vs, (omega (arith, is.0), is.1.1, refl), refl), is.2)

pub many_reader : (P : ℕ → Type 0) (f : ℕ → List Bool) (read : List Bool → Reading ℕ) → IsReader (λ v code. P v × (code ≡ f v)) read → (n : ℕ) → IsReader (ManyCodes P f n) (many_at read n)
unfolding many_at
many_reader P f read reader zero = record {
  some = [];
  some_code = [];
  is_some = (refl, tt, refl);
  complete = λ vs code rest is. nil_case f vs code rest is.0 is.2;
  sound = λ bits vs rest e.
      let parts = ok_parts [] vs bits rest e in
      ([], (ap length (sym parts.0), subst (AllByRecursion P) parts.0 tt, ap (flat_map f) parts.0), parts.1);
  ended = λ bits e. cc;
  unlawful = λ bits tail e. cc;
}
many_reader P f read reader (suc n) =
    let Codes : ℕ → List Bool → Type 0 = λ v code. P v × (code ≡ f v) in
    let Next : ℕ → List ℕ → List Bool → Type 0 = λ v. MapCodes (λ vs. v ∷ vs) (ManyCodes P f n) in
    same_reader (SeqCodes Codes Next) (ManyCodes P f (suc n)) (many_at read (suc n))
    (λ vs code is.
    let v = is.0 in
    let more = is.4.0 in
    let all : (length (v ∷ more) ≡ suc n) × AllByRecursion P (v ∷ more) × (code ≡ flat_map f (v ∷ more)) = (ap (λ k. suc k) is.4.1.0, (is.3.0, is.4.1.1), is.5 ∙ ap (λ front. front ++ is.2) is.3.1 ∙ ap (λ back. f v ++ back) is.4.1.2) in
    subst (λ (x : List ℕ). ManyCodes P f (suc n) x code) is.4.2 all)
    (λ vs code is. cons_case P f n vs code is)
    (seq_reader Codes Next read (λ v rest. reading_map (λ vs. v ∷ vs) (many_at read n rest)) reader (λ v code is. map_reader (λ vs. v ∷ vs) (ManyCodes P f n) (many_at read n) (many_reader P f read reader n)))
