-- What the calls of a bit reader mean to the plain program.
use Rattle.std.proofs.Common.{◌≡◌, ℕ, ◌+◌, ◌-◌, ◌*◌, ◌%◌, ◌^◌, ◌<◌, ◌≤◌, bit_or, Bool, true, false, List, [], ◌∷◌, ◌++◌, length, take, drop, replicate, Ok, Err, sym, ap, ◌∙◌, arith, length-append}
use Rattle.std.proofs.lemmas.Nat.{or_shifted}
use Rattle.std.proofs.lemmas.List.{append-nil, take-append-drop, length-replicate, nil_from_length, take_at}
use Rattle.std.proofs.Math.Nat.{pow-le-pow_right, mod-eq_of_lt}
use Rattle.fz_bits.specs.Bits.{number_bits, bits_value}
use Rattle.fz_bits.specs.Laws.{NumberLaws}
use Rattle.fz_bits.specs.Reader.{HasZeros, IsZeros}
use Rattle.fz_rice.specs.Reading.{and_then, reading_map, number_at, id_at, zeros_at, most_zeros, split_at}
use Rattle.fz_rice.specs.declared.coder.CodeFault.TheVariants.{Ended, Unlawful}
use Rattle.fz_rice.proofs.FieldReaders.{number_at-number, zeros_at-run, zeros_at-long, zeros_at-all}
use Rattle.fz_rice.proofs.BlockReaders.{id_at-id, id_at-high}
use Rattle.fz_rice.proofs.ValueReaders.{value_lt}

pub number_read : NumberLaws → (m v : ℕ) (bits rest : List Bool) → bits ≡ number_bits m v ++ rest → v < 2 ^ m → number_at m bits ≡ Ok (v, rest)
number_read laws m v bits rest is fits = ap (number_at m) is ∙ number_at-number laws m v rest fits

-- bits that were read are counted once
pub count_kept : (now before n : ℕ) (front old new : List Bool) → old ≡ front ++ new → length front ≡ n → now ≡ before + n → now + length new ≡ before + length old
count_kept now before n front old new is len more =
    omega (arith, ap length is ∙ length-append front new)

pub zeros_read : (max n : ℕ) (bits rest : List Bool) → bits ≡ replicate n false ++ true ∷ rest → n ≤ max → zeros_at max bits ≡ Ok (n, rest)
zeros_read max n bits rest is most = ap (zeros_at max) is ∙ zeros_at-run n max rest most

pub zeros_counted : (now before n : ℕ) (old new : List Bool) → old ≡ replicate n false ++ true ∷ new → now ≡ before + n + 1 → now + length new ≡ before + length old
zeros_counted now before n old new is more =
    omega (arith, ap length is ∙ length-append (replicate n false) (true ∷ new), length-replicate n false)

pub too_many : (max : ℕ) (bits : List Bool) → HasZeros max bits → zeros_at max bits ≡ Err Unlawful
too_many max bits has =
    ap (zeros_at max) (sym (take-append-drop (max + 1) bits) ∙ ap (λ front. front ++ drop (max + 1) bits) has) ∙ zeros_at-long (max + 1) max (drop (max + 1) bits) (omega arith)

pub zeros_end : (max : ℕ) (bits : List Bool) → IsZeros max bits → zeros_at max bits ≡ Err Ended
zeros_end max bits is = ap (zeros_at max) is.0 ∙ zeros_at-all (length bits) max is.1

mod_small : (a n : ℕ) → a < n → a % n ≡ a
mod_small a n h = mod-eq_of_lt h

-- the two parts of a value, joined
pub value_joined : (w k q low : ℕ) → w ≤ 32 → k ≤ w → q ≤ most_zeros w k → low < 2 ^ k → bit_or (q * 2 ^ k % 4294967296) low ≡ q * 2 ^ k + low
value_joined w k q low wide h most small =
    let fits = value_lt w k q low h most small in
    let word : 2 ^ w ≤ 2 ^ 32 = pow-le-pow_right (omega arith) wide in
    let same : q * 2 ^ k % 4294967296 ≡ q * 2 ^ k = mod_small (q * 2 ^ k) 4294967296 (omega (arith, fits, word)) in
    ap (λ x. bit_or x low) same ∙ or_shifted q k low small

pub split_read : (w k q low : ℕ) (bits more rest : List Bool) → zeros_at (most_zeros w k) bits ≡ Ok (q, more) → number_at k more ≡ Ok (low, rest) → split_at w k bits ≡ Ok (q * 2 ^ k + low, rest)
split_read w k q low bits more rest z n =
    ap (λ r. and_then r (λ u x. reading_map (λ l. u * 2 ^ k + l) (number_at k x))) z ∙ ap (reading_map (λ l. q * 2 ^ k + l)) n

-- the bits that are left where they end in an id
pub cut_value : NumberLaws → (n missing front : ℕ) (bits rest : List Bool) → length bits + missing ≤ n → bits ≡ number_bits (n - missing) front ++ rest → front < 2 ^ (n - missing) → (length bits ≡ n - missing) × (bits_value bits ≡ front)
cut_value laws n missing front bits rest short is fits =
    let size = ap length is ∙ length-append (number_bits (n - missing) front) rest in
    let len = laws.many (n - missing) front in
    let none : rest ≡ [] = nil_from_length rest (omega arith) in
    (omega arith, ap bits_value (is ∙ ap (λ x. number_bits (n - missing) front ++ x) none ∙ append-nil (number_bits (n - missing) front)) ∙ laws.value (n - missing) front fits)

pub id_read : NumberLaws → (n most id : ℕ) (bits rest : List Bool) → bits ≡ number_bits n id ++ rest → most < 2 ^ n → id ≤ most → id_at n most bits ≡ Ok (id, rest)
id_read laws n most id bits rest is fits low = ap (id_at n most) is ∙ id_at-id laws n most id rest fits low

pub id_high : NumberLaws → (n most id : ℕ) (bits rest : List Bool) → bits ≡ number_bits n id ++ rest → id < 2 ^ n → most < id → id_at n most bits ≡ Err Unlawful
id_high laws n most id bits rest is fits high =
    let len = laws.many n id in
    let value : bits_value (take n bits) ≡ id = ap (λ x. bits_value (take n x)) is ∙ ap bits_value (take_at (number_bits n id) rest n len) ∙ laws.value n id fits in
    id_at-high n most bits (omega (arith, ap length is ∙ length-append (number_bits n id) rest, len)) (omega (arith, value))
