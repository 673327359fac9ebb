-- Readers of a number of so many bits, and of a run of zeros.
use Rattle.std.proofs.Common.{◌≡◌, ℕ, zero, suc, ◌-◌, ◌^◌, ◌<◌, ◌≤◌, nat_lt, Bool, true, false, List, [], ◌∷◌, ◌++◌, length, take, drop, replicate, Ok, Err, inl, inr, refl, sym, subst, ap, ◌∙◌, arith, append_assoc, length-append}
use Rattle.std.proofs.lemmas.Bool.{cases_lt}
use Rattle.std.proofs.lemmas.Nat.{pow_pos}
use Rattle.std.proofs.lemmas.List.{length-take-le, length-replicate, take-append-drop, take_at, drop_at}
use Rattle.std.proofs.lemmas.Bool.Decides.{nat_tests}
use Rattle.fz_bits.specs.Bits.{number_bits, bits_value}
use Rattle.fz_laws.proofs.RiceBits.{length-number_bits, bits_value-lt, number_bits-bits_value, bits_value-number_bits}
use Rattle.fz_rice.specs.Reading.{reading_map, number_at, zeros_at}
use Rattle.fz_rice.specs.declared.coder.CodeFault.TheVariants.{Ended, Unlawful}
use Rattle.fz_laws.proofs.RiceReaders.{reading_map-ok, reading_map-err, IsReader, ok_parts}

-- a test that is true, or false
pub lt-true : (a b : ℕ) → a < b → nat_lt a b ≡ true
lt-true a b h = grind (arith, nat_tests)

pub lt-false : (a b : ℕ) → b ≤ a → nat_lt a b ≡ false
lt-false a b h = grind (arith, nat_tests)

abbrev pub NumberCodes : ℕ → ℕ → List Bool → Type 0
NumberCodes m v code = (v < 2 ^ m) × (code ≡ number_bits m v)

pub number_at-long : (m : ℕ) (bits : List Bool) → m ≤ length bits → number_at m bits ≡ Ok (bits_value (take m bits), drop m bits)
number_at-long m bits h = rw (lt-false (length bits) m h) refl

pub number_at-short : (m : ℕ) (bits : List Bool) → length bits < m → number_at m bits ≡ Err Ended
number_at-short m bits h = rw (lt-true (length bits) m h) refl

pub number_at-number : (m v : ℕ) (rest : List Bool) → v < 2 ^ m → number_at m (number_bits m v ++ rest) ≡ Ok (v, rest)
number_at-number m v rest h =
    let len = length-number_bits m v in
    number_at-long m (number_bits m v ++ rest) (omega (arith, length-append (number_bits m v) rest, len)) ∙ ap (λ p. Ok p) (λ i. ((ap bits_value (take_at (number_bits m v) rest m len) ∙ bits_value-number_bits m v h) i, drop_at (number_bits m v) rest m len i))

pub number_reader : (m : ℕ) → IsReader (NumberCodes m) (number_at m)
number_reader m = record {
  some = 0;
  some_code = number_bits m 0;
  is_some = (pow_pos m, refl);
  complete = λ v code rest is. ap (λ bits. number_at m (bits ++ rest)) is.1 ∙ number_at-number m v rest is.0;
  sound = λ bits v rest e. elim (cases_lt (length bits) m) [
    | inl h ↦ let short = number_at-short m bits h in cc
    | inr h ↦
        let parts = ok_parts (bits_value (take m bits)) v (drop m bits) rest (sym (number_at-long m bits h) ∙ e) in
        let len = length-take-le m bits h in
        (take m bits, (subst (λ (k : ℕ). k < 2 ^ m) parts.0 (subst (λ (k : ℕ). bits_value (take m bits) < 2 ^ k) len (bits_value-lt (take m bits))), sym (ap (number_bits m) (sym parts.0) ∙ ap (λ k. number_bits k (bits_value (take m bits))) (sym len) ∙ number_bits-bits_value (take m bits))), sym (take-append-drop m bits) ∙ ap (λ x. take m bits ++ x) parts.1)
  ];
  ended = λ bits e. elim (cases_lt (length bits) m) [
    | inl h ↦
        let tail = replicate (m - length bits) false in
        let len : length (bits ++ tail) ≡ m = length-append bits tail ∙ omega (arith, length-replicate (m - length bits) false) in
        (bits_value (bits ++ tail), tail, λ none. absurd (omega (arith, ap length none, length-replicate (m - length bits) false)), (subst (λ (k : ℕ). bits_value (bits ++ tail) < 2 ^ k) len (bits_value-lt (bits ++ tail)), sym (ap (λ k. number_bits k (bits_value (bits ++ tail))) (sym len) ∙ number_bits-bits_value (bits ++ tail))))
    | inr h ↦ let long = number_at-long m bits h in cc
  ];
  unlawful = λ bits tail e. elim (cases_lt (length bits) m) [
    | inl h ↦ let short = number_at-short m bits h in cc
    | inr h ↦ let long = number_at-long m bits h in cc
  ];
}

abbrev pub ZerosCodes : ℕ → ℕ → List Bool → Type 0
ZerosCodes max n code = (n ≤ max) × (code ≡ replicate n false ++ true ∷ [])

pub zeros_at-run : (n max : ℕ) (rest : List Bool) → n ≤ max → zeros_at max (replicate n false ++ true ∷ rest) ≡ Ok (n, rest)
unfolding zeros_at
zeros_at-run zero max rest h = refl
zeros_at-run (suc n) zero rest h = absurd (omega arith)
zeros_at-run (suc n) (suc max) rest h = ap (reading_map (λ k. suc k)) (zeros_at-run n max rest (omega arith))

zeros_at-ok : (max : ℕ) (bits : List Bool) (n : ℕ) (rest : List Bool) → zeros_at max bits ≡ Ok (n, rest) → (n ≤ max) × (bits ≡ replicate n false ++ true ∷ rest)
unfolding zeros_at
zeros_at-ok max [] n rest e = cc
zeros_at-ok max (true ∷ bits) n rest e =
    let parts = ok_parts 0 n bits rest e in
    (omega (arith, parts.0), ap (λ x. true ∷ x) parts.1 ∙ ap (λ k. replicate k false ++ true ∷ rest) parts.0)
zeros_at-ok zero (false ∷ bits) n rest e = cc
zeros_at-ok (suc max) (false ∷ bits) n rest e =
    let p = reading_map-ok (λ k. suc k) (zeros_at max bits) n rest e in
    let below = zeros_at-ok max bits p.0 rest p.1 in
    (omega (arith, p.2, below.0), ap (λ x. false ∷ x) below.1 ∙ ap (λ k. replicate k false ++ true ∷ rest) p.2)

zeros_at-ended : (max : ℕ) (bits : List Bool) → zeros_at max bits ≡ Err Ended → (length bits ≤ max) × (bits ≡ replicate (length bits) false)
unfolding zeros_at
zeros_at-ended max [] e = (omega arith, refl)
zeros_at-ended max (true ∷ bits) e = cc
zeros_at-ended zero (false ∷ bits) e = cc
zeros_at-ended (suc max) (false ∷ bits) e =
    let below = zeros_at-ended max bits (reading_map-err (λ k. suc k) (zeros_at max bits) Ended e) in
    (omega (arith, below.0), ap (λ x. false ∷ x) below.1)

zeros_at-unlawful : (max : ℕ) (bits tail : List Bool) → zeros_at max bits ≡ Err Unlawful → zeros_at max (bits ++ tail) ≡ Err Unlawful
unfolding zeros_at
zeros_at-unlawful max [] tail e = cc
zeros_at-unlawful max (true ∷ bits) tail e = cc
zeros_at-unlawful zero (false ∷ bits) tail e = refl
zeros_at-unlawful (suc max) (false ∷ bits) tail e =
    ap (reading_map (λ k. suc k)) (zeros_at-unlawful max bits tail (reading_map-err (λ k. suc k) (zeros_at max bits) Unlawful e))

pub zeros_reader : (max : ℕ) → IsReader (ZerosCodes max) (zeros_at max)
zeros_reader max = record {
  some = 0;
  some_code = true ∷ [];
  is_some = (omega arith, refl);
  complete = λ n code rest is. ap (λ bits. zeros_at max (bits ++ rest)) is.1 ∙ ap (zeros_at max) (append_assoc (replicate n false) (true ∷ []) rest) ∙ zeros_at-run n max rest is.0;
  sound = λ bits n rest e.
      let is = zeros_at-ok max bits n rest e in
      (replicate n false ++ true ∷ [], (is.0, refl), is.1 ∙ sym (append_assoc (replicate n false) (true ∷ []) rest));
  ended = λ bits e.
      let is = zeros_at-ended max bits e in
      (length bits, true ∷ [], λ none. cc, (is.0, ap (λ x. x ++ true ∷ []) is.1));
  unlawful = λ bits tail e. zeros_at-unlawful max bits tail e;
}
