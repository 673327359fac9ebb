-- Readers of an id and of a block.
use Rattle.std.proofs.Common.{◌≡◌, ℕ, zero, suc, ◌+◌, ◌-◌, ◌*◌, ◌^◌, ◌<◌, ◌≤◌, ◌==◌, Bool, true, false, List, [], ◌++◌, length, take, drop, replicate, Ok, Err, inl, inr, refl, sym, subst, ap, ◌∙◌, arith, length-append}
use Rattle.std.specs.List.{flat_map, AllByRecursion}
use Rattle.std.proofs.lemmas.Bool.{cases_lt, cases_eq}
use Rattle.std.proofs.lemmas.Nat.{pow_pos, pow-add}
use Rattle.std.proofs.lemmas.List.{length-take-le, length-replicate, take-append-drop, take-append-le, take_at, drop_at}
use Rattle.std.proofs.Math.Seq.{take-append-add}
use Rattle.std.proofs.lemmas.Bool.Decides.{nat_tests}
use Rattle.fz_bits.specs.Bits.{number_bits, bits_value}
use Rattle.fz_laws.proofs.RiceBits.{number_bits-bits_value, bits_value-append, bits_value-number_bits, length-number_bits, number_bits-joined, number_bits-zero}
use Rattle.fz_rice.specs.Reading.{number_at, split_at, many_at, id_at, values_at, block_at}
use Rattle.fz_rice.specs.Numbers.{IsWidth}
use Rattle.fz_rice.specs.Code.{row, split_bits, values_bits, block_bits, CanHold}
use Rattle.fz_rice.specs.declared.coder.CodeFault.TheVariants.{Ended, Unlawful}
use Rattle.fz_laws.proofs.RiceReaders.{IsReader, SeqCodes, seq_reader, same_reader, same_read, ok_parts}
use Rattle.fz_laws.proofs.RiceFields.{lt-true, lt-false, number_reader}
use Rattle.fz_laws.proofs.RiceValues.{split_reader, ManyCodes, many_reader}

abbrev pub IdCodes : ℕ → ℕ → ℕ → List Bool → Type 0
IdCodes n most id code = (id ≤ most) × (code ≡ number_bits n id)

pub id_at-cut : (n most : ℕ) (bits : List Bool) → length bits < n → bits_value bits * 2 ^ (n - length bits) ≤ most → id_at n most bits ≡ Err Ended
id_at-cut n most bits short low = rw (lt-true (length bits) n short, lt-false most (bits_value bits * 2 ^ (n - length bits)) low) refl

pub id_at-cut_high : (n most : ℕ) (bits : List Bool) → length bits < n → most < bits_value bits * 2 ^ (n - length bits) → id_at n most bits ≡ Err Unlawful
id_at-cut_high n most bits short high = rw (lt-true (length bits) n short, lt-true most (bits_value bits * 2 ^ (n - length bits)) high) refl

pub id_at-high : (n most : ℕ) (bits : List Bool) → n ≤ length bits → most < bits_value (take n bits) → id_at n most bits ≡ Err Unlawful
id_at-high n most bits long high = rw (lt-false (length bits) n long, lt-true most (bits_value (take n bits)) high) refl

pub id_at-lawful : (n most : ℕ) (bits : List Bool) → n ≤ length bits → bits_value (take n bits) ≤ most → id_at n most bits ≡ Ok (bits_value (take n bits), drop n bits)
id_at-lawful n most bits long low = rw (lt-false (length bits) n long, lt-false most (bits_value (take n bits)) low) refl

-- an id with bits after it
pub id_at-id : (n most id : ℕ) (rest : List Bool) → most < 2 ^ n → id ≤ most → id_at n most (number_bits n id ++ rest) ≡ Ok (id, rest)
id_at-id n most id rest fits low =
    let len = length-number_bits n id in
    let value : bits_value (take n (number_bits n id ++ rest)) ≡ id = ap bits_value (take_at (number_bits n id) rest n len) ∙ bits_value-number_bits n id (omega arith) in
    id_at-lawful n most (number_bits n id ++ rest) (omega (arith, length-append (number_bits n id) rest, len)) (omega (arith, value)) ∙ ap (λ p. Ok p) (λ i. (value i, drop_at (number_bits n id) rest n len i))

-- the bits after a high front leave it high
stays_high : (v t a b most : ℕ) → most < v * (a * b) → most < (v * a + t) * b
stays_high v t a b most h = omega arith

id_stays_unlawful : (n most : ℕ) (bits tail : List Bool) → length bits < n → most < bits_value bits * 2 ^ (n - length bits) → id_at n most (bits ++ tail) ≡ Err Unlawful
id_stays_unlawful n most bits tail short high =
    let len = length-append bits tail in
    elim (cases_lt (length (bits ++ tail)) n) [
      | inl h ↦
          let rest = n - length (bits ++ tail) in
          let e : 2 ^ (n - length bits) ≡ 2 ^ length tail * 2 ^ rest = ap (λ k. 2 ^ k) (omega (arith, len)) ∙ pow-add 2 (length tail) rest in
          let more = stays_high (bits_value bits) (bits_value tail) (2 ^ length tail) (2 ^ rest) most (subst (λ (k : ℕ). most < bits_value bits * k) e high) in
          id_at-cut_high n most (bits ++ tail) h (subst (λ (k : ℕ). most < k * 2 ^ rest) (sym (bits_value-append bits tail)) more)
      | inr h ↦
          let rest = n - length bits in
          let front : take n (bits ++ tail) ≡ bits ++ take rest tail = ap (λ k. take k (bits ++ tail)) (omega arith) ∙ take-append-add bits tail rest in
          let size : length (take rest tail) ≡ rest = length-take-le rest tail (omega (arith, len)) in
          let value : bits_value (take n (bits ++ tail)) ≡ bits_value bits * 2 ^ rest + bits_value (take rest tail) = ap bits_value front ∙ bits_value-append bits (take rest tail) ∙ ap (λ k. bits_value bits * 2 ^ k + bits_value (take rest tail)) size in
          id_at-high n most (bits ++ tail) h (omega (arith, value))
    ]

pub id_reader : (n most : ℕ) → most < 2 ^ n → IsReader (IdCodes n most) (id_at n most)
id_reader n most fits = record {
  some = 0;
  some_code = number_bits n 0;
  is_some = (omega arith, refl);
  complete = λ id code rest is. ap (λ bits. id_at n most (bits ++ rest)) is.1 ∙ id_at-id n most id rest fits is.0;
  sound = λ bits id rest e. elim (cases_lt (length bits) n) [
    | inl short ↦ elim (cases_lt most (bits_value bits * 2 ^ (n - length bits))) [
      | inl high ↦ let u = id_at-cut_high n most bits short high in cc
      | inr low ↦ let u = id_at-cut n most bits short low in cc
    ]
    | inr long ↦ elim (cases_lt most (bits_value (take n bits))) [
      | inl high ↦ let u = id_at-high n most bits long high in cc
      | inr low ↦
          let parts = ok_parts (bits_value (take n bits)) id (drop n bits) rest (sym (id_at-lawful n most bits long low) ∙ e) in
          let len = length-take-le n bits long in
          (take n bits, (omega (arith, parts.0), sym (ap (number_bits n) (sym parts.0) ∙ ap (λ k. number_bits k (bits_value (take n bits))) (sym len) ∙ number_bits-bits_value (take n bits))), sym (take-append-drop n bits) ∙ ap (λ x. take n bits ++ x) parts.1)
    ]
  ];
  ended = λ bits e. elim (cases_lt (length bits) n) [
    | inl short ↦ elim (cases_lt most (bits_value bits * 2 ^ (n - length bits))) [
      | inl high ↦ let u = id_at-cut_high n most bits short high in cc
      | inr low ↦
          let rest = n - length bits in
          let tail = replicate rest false in
          let whole : number_bits n (bits_value bits * 2 ^ rest) ≡ bits ++ tail = ap (λ k. number_bits k (bits_value bits * 2 ^ rest)) (omega arith) ∙ ap (number_bits (length bits + rest)) (omega arith) ∙ number_bits-joined (length bits) rest (bits_value bits) 0 (pow_pos rest) ∙ ap (λ front. front ++ number_bits rest 0) (number_bits-bits_value bits) ∙ ap (λ back. bits ++ back) (number_bits-zero rest) in
          (bits_value bits * 2 ^ rest, tail, λ none. absurd (omega (arith, ap length none, length-replicate rest false)), (low, sym whole))
    ]
    | inr long ↦ elim (cases_lt most (bits_value (take n bits))) [
      | inl high ↦ let u = id_at-high n most bits long high in cc
      | inr low ↦ let u = id_at-lawful n most bits long low in cc
    ]
  ];
  unlawful = λ bits tail e. elim (cases_lt (length bits) n) [
    | inl short ↦ elim (cases_lt most (bits_value bits * 2 ^ (n - length bits))) [
      | inl high ↦ id_stays_unlawful n most bits tail short high
      | inr low ↦ let u = id_at-cut n most bits short low in cc
    ]
    | inr long ↦ elim (cases_lt most (bits_value (take n bits))) [
      | inl high ↦ id_at-high n most (bits ++ tail) (omega (arith, length-append bits tail)) (subst (λ (x : List Bool). most < bits_value x) (sym (take-append-le n bits tail long)) high)
      | inr low ↦ let u = id_at-lawful n most bits long low in cc
    ]
  ];
}

abbrev pub IsValue : ℕ → ℕ → Type 0
IsValue w v = v < 2 ^ w

pub record ValuesCodes (w n id : ℕ) (vs : List ℕ) (code : List Bool) : Type 0 where
  pub len : length vs ≡ n
  pub values : AllByRecursion (IsValue w) vs
  pub holds : id ≡ 0 → vs ≡ replicate (length vs) 0
  pub is : code ≡ values_bits w id vs

pub eq-true : (a b : ℕ) → a ≡ b → (a == b) ≡ true
eq-true a b h = grind (arith, nat_tests)

pub eq-false : (a b : ℕ) → (a ≡ b → ⊥) → (a == b) ≡ false
eq-false a b h = grind (arith, nat_tests)

pub values_at-zero : (w n id : ℕ) (bits : List Bool) → id ≡ 0 → values_at w n id bits ≡ Ok (replicate n 0, bits)
values_at-zero w n id bits h = rw (eq-true id 0 h) refl

pub values_at-raw : (w n id : ℕ) (bits : List Bool) → (id ≡ 0 → ⊥) → id ≡ (row w).raw_id → values_at w n id bits ≡ many_at (number_at w) n bits
values_at-raw w n id bits h k = rw (eq-false id 0 h, eq-true id (row w).raw_id k) refl

pub values_at-split : (w n id : ℕ) (bits : List Bool) → (id ≡ 0 → ⊥) → (id ≡ (row w).raw_id → ⊥) → values_at w n id bits ≡ many_at (split_at w (id - 1)) n bits
values_at-split w n id bits h k = rw (eq-false id 0 h, eq-false id (row w).raw_id k) refl

pub values_bits-zero : (w id : ℕ) (vs : List ℕ) → id ≡ 0 → values_bits w id vs ≡ []
values_bits-zero w id vs h = rw (eq-true id 0 h) refl

pub values_bits-raw : (w id : ℕ) (vs : List ℕ) → (id ≡ 0 → ⊥) → id ≡ (row w).raw_id → values_bits w id vs ≡ flat_map (number_bits w) vs
values_bits-raw w id vs h k = rw (eq-false id 0 h, eq-true id (row w).raw_id k) refl

pub values_bits-split : (w id : ℕ) (vs : List ℕ) → (id ≡ 0 → ⊥) → (id ≡ (row w).raw_id → ⊥) → values_bits w id vs ≡ flat_map (split_bits (id - 1)) vs
values_bits-split w id vs h k = rw (eq-false id 0 h, eq-false id (row w).raw_id k) refl

zeros_are_values : (w n : ℕ) → AllByRecursion (IsValue w) (replicate n 0)
zeros_are_values w zero = tt
zeros_are_values w (suc n) = (pow_pos w, zeros_are_values w n)

zeros_reader : (w n id : ℕ) → id ≡ 0 → IsReader (ValuesCodes w n id) (λ bits. Ok (replicate n 0, bits))
zeros_reader w n id h =
    let none : (vs : List ℕ) → values_bits w id vs ≡ [] = λ vs. values_bits-zero w id vs h in
    let len = length-replicate n 0 in
    let is : ValuesCodes w n id (replicate n 0) [] = record { len = len; values = zeros_are_values w n; holds = λ _. ap (λ k. replicate k 0) (sym len); is = sym (none (replicate n 0)) } in
    record {
      some = replicate n 0;
      some_code = [];
      is_some = is;
      complete = λ vs code rest c.
          let all : replicate n 0 ≡ vs = sym (c.holds h ∙ ap (λ k. replicate k 0) c.len) in
          let empty : code ++ rest ≡ rest = ap (λ x. x ++ rest) (c.is ∙ none vs) in
          ap (λ p. Ok p) (λ i. (all i, empty i));
      sound = λ bits vs rest e.
          let parts = ok_parts (replicate n 0) vs bits rest e in
          ([], subst (λ (x : List ℕ). ValuesCodes w n id x []) parts.0 is, parts.1);
      ended = λ bits e. cc;
      unlawful = λ bits tail e. cc;
    }

-- every k of an id is below the width
pub k_lt : (w id : ℕ) → IsWidth w → id < (row w).raw_id → id - 1 < w
k_lt w id is h = elim is [
  | inl e ↦ let k : id < 7 = subst (λ (x : ℕ). id < (row x).raw_id) e h in omega arith
  | inr f ↦ elim f [
    | inl e ↦ let k : id < 15 = subst (λ (x : ℕ). id < (row x).raw_id) e h in omega arith
    | inr e ↦ let k : id < 26 = subst (λ (x : ℕ). id < (row x).raw_id) e h in omega arith
  ]
]

pub values_reader : (w n id : ℕ) → IsWidth w → id ≤ (row w).raw_id → IsReader (ValuesCodes w n id) (values_at w n id)
values_reader w n id is low = elim (cases_eq id 0) [
  | inl e ↦ same_read (ValuesCodes w n id) (λ bits. Ok (replicate n 0, bits)) (values_at w n id) (λ bits. sym (values_at-zero w n id bits e)) (zeros_reader w n id e)
  | inr some ↦ elim (cases_eq id (row w).raw_id) [
    | inl e ↦ same_read (ValuesCodes w n id) (many_at (number_at w) n) (values_at w n id) (λ bits. sym (values_at-raw w n id bits some e))
        (same_reader (ManyCodes (IsValue w) (number_bits w) n) (ValuesCodes w n id) (many_at (number_at w) n)
        (λ vs code c. record { len = c.0; values = c.1; holds = λ z. absurd (some z); is = c.2 ∙ sym (values_bits-raw w id vs some e) })
        (λ vs code c. (c.len, c.values, c.is ∙ values_bits-raw w id vs some e))
        (many_reader (IsValue w) (number_bits w) (number_at w) (number_reader w) n))
    | inr other ↦ same_read (ValuesCodes w n id) (many_at (split_at w (id - 1)) n) (values_at w n id) (λ bits. sym (values_at-split w n id bits some other))
        (same_reader (ManyCodes (IsValue w) (split_bits (id - 1)) n) (ValuesCodes w n id) (many_at (split_at w (id - 1)) n)
        (λ vs code c. record { len = c.0; values = c.1; holds = λ z. absurd (some z); is = c.2 ∙ sym (values_bits-split w id vs some other) })
        (λ vs code c. (c.len, c.values, c.is ∙ values_bits-split w id vs some other))
        (many_reader (IsValue w) (split_bits (id - 1)) (split_at w (id - 1)) (split_reader w (id - 1) (omega (arith, k_lt w id is (omega arith)))) n))
  ]
]

pub record BlockCodes (w n : ℕ) (vs : List ℕ) (code : List Bool) : Type 0 where
  pub len : length vs ≡ n
  pub values : AllByRecursion (IsValue w) vs
  pub id : ℕ
  pub holds : CanHold w id vs
  pub is : code ≡ block_bits w id vs

-- the raw id is a number of as many bits as an id has
pub raw_fits : (w : ℕ) → IsWidth w → (row w).raw_id < 2 ^ (row w).id_len
raw_fits w is = elim is [
  | inl e ↦ subst (λ (x : ℕ). (row x).raw_id < 2 ^ (row x).id_len) (sym e) (omega arith)
  | inr f ↦ elim f [
    | inl e ↦ subst (λ (x : ℕ). (row x).raw_id < 2 ^ (row x).id_len) (sym e) (omega arith)
    | inr e ↦ subst (λ (x : ℕ). (row x).raw_id < 2 ^ (row x).id_len) (sym e) (omega arith)
  ]
]

pub block_reader : (w n : ℕ) → IsWidth w → IsReader (BlockCodes w n) (block_at w n)
block_reader w n is =
    let Ids = IdCodes (row w).id_len (row w).raw_id in
    same_reader (SeqCodes Ids (ValuesCodes w n)) (BlockCodes w n) (block_at w n)
    (λ vs code c. record { len = c.4.len; values = c.4.values; id = c.0; holds = (c.3.0, c.4.holds); is = c.5 ∙ ap (λ front. front ++ c.2) c.3.1 ∙ ap (λ back. number_bits (row w).id_len c.0 ++ back) c.4.is })
    (λ vs code c. (c.id, number_bits (row w).id_len c.id, values_bits w c.id vs, (c.holds.0, refl), record { len = c.len; values = c.values; holds = c.holds.1; is = refl }, c.is))
    (seq_reader Ids (ValuesCodes w n) (id_at (row w).id_len (row w).raw_id) (values_at w n) (id_reader (row w).id_len (row w).raw_id (raw_fits w is)) (λ id code c. values_reader w n id is c.0))
