-- What a reading of the whole code says of the bits.
use Rattle.std.proofs.Common.{◌≡◌, ℕ, ◌+◌, ◌-◌, ◌/◌, ◌<◌, Bool, ℤ, List, length, Ok, Err, ◌↔◌, IsOk, IsErrOf, refl, sym, ap, ◌∙◌, arith, length-append}
use Rattle.std.specs.Int.{div_ceil}
use Rattle.fz_bits.specs.Laws.{NumberLaws}
use Rattle.fz_rice.specs.Numbers.{IsWidth}
use Rattle.fz_rice.specs.Prefix.{BeginsWith, BeginsWithCode, IsBeginning}
use Rattle.fz_rice.specs.Reading.{and_then, reading_map, number_at, blocks_at, numbers_from, code_at, GivesNumbers}
use Rattle.fz_rice.specs.declared.coder.CodeFault.{CodeFault}
use Rattle.fz_rice.specs.declared.coder.CodeFault.TheVariants.{Ended, Unlawful}
use Rattle.fz_rice.proofs.Readers.{beginning_ends}
use Rattle.fz_rice.proofs.CodeReaders.{RiceCodes, code_reader}

module _ (laws : NumberLaws) (w block n : ℕ) (is : IsWidth w) (some : 0 < block) (bits : List Bool) where
  pub begins : (xs : List ℤ) (rest : List Bool) (bytes : ℕ) → code_at w block n bits ≡ Ok (xs, rest) → bytes ≡ (length bits - length rest + 7) / 8 → BeginsWith w block xs bytes bits
  begins xs rest bytes read size =
      let front = (code_reader laws w block n is some).sound bits xs rest read in
      let len = ap length front.2 ∙ length-append front.0 rest in
      record {
        code = front.0;
        rest = rest;
        is_code = front.1.1;
        is = front.2;
        len = size ∙ ap (λ k. (k + 7) / 8) (omega arith);
      }

  pub begins_len : (xs : List ℤ) (rest : List Bool) → code_at w block n bits ≡ Ok (xs, rest) → length xs ≡ n
  begins_len xs rest read = ((code_reader laws w block n is some).sound bits xs rest read).1.0

  pub begins_reads : BeginsWithCode w block n bits → (xs : List ℤ) × (rest : List Bool) × (code_at w block n bits ≡ Ok (xs, rest))
  begins_reads b =
      let whole = b.3 in
      (b.0, whole.rest, ap (code_at w block n) whole.is ∙ (code_reader laws w block n is some).complete b.0 whole.code whole.rest (b.2, whole.is_code))

  pub beginning_reads : IsBeginning w block n bits → code_at w block n bits ≡ Err Ended
  beginning_reads b = beginning_ends (RiceCodes w block n) (code_at w block n) (code_reader laws w block n is some) bits b.0 b.1 b.3 (b.2, b.4)

  pub ended_begins : code_at w block n bits ≡ Err Ended → IsBeginning w block n bits
  ended_begins read =
      let front = (code_reader laws w block n is some).ended bits read in
      (front.0, front.1, front.3.0, front.2, front.3.1)

  -- if a fault was met
  pub fault_ok : (e : CodeFault) → code_at w block n bits ≡ Err e → BeginsWithCode w block n bits → ⊥
  fault_ok e read b = let whole = begins_reads b in cc

  pub fault_ended : (e : CodeFault) → code_at w block n bits ≡ Err e → (e ≡ Ended) ↔ IsBeginning w block n bits
  fault_ended e read =
      (λ k. ended_begins (read ∙ ap Err k), λ b. let whole = beginning_reads b in cc)

  pub fault_unlawful : (e : CodeFault) → code_at w block n bits ≡ Err e → (e ≡ Unlawful) ↔ ((BeginsWithCode w block n bits → ⊥) × (IsBeginning w block n bits → ⊥))
  fault_unlawful Ended read = (λ k. cc, λ p. absurd (p.1 (ended_begins read)))
  fault_unlawful Unlawful read = (λ k. (fault_ok Unlawful read, λ b. let whole = beginning_reads b in cc), λ p. refl)

  pub no_beginning : (xs : List ℤ) (rest : List Bool) → code_at w block n bits ≡ Ok (xs, rest) → IsBeginning w block n bits → ⊥
  no_beginning xs rest read b = let whole = beginning_reads b in cc

  -- the clauses on the answers
  pub answer_fault_ok : (e : CodeFault) → code_at w block n bits ≡ Err e → IsOk {T = ℕ} {E = CodeFault} (Err e) ↔ BeginsWithCode w block n bits
  answer_fault_ok e read = (λ k. cc, λ b. absurd (fault_ok e read b))

  pub answer_fault_ended : (e : CodeFault) → code_at w block n bits ≡ Err e → IsErrOf {T = ℕ} {E = CodeFault} (Err e) Ended ↔ IsBeginning w block n bits
  answer_fault_ended e read =
      let both = fault_ended e read in
      (λ k. both.0 (let same : e ≡ Ended = cc in same), λ b. ap Err (both.1 b))

  pub answer_fault_unlawful : (e : CodeFault) → code_at w block n bits ≡ Err e → IsErrOf {T = ℕ} {E = CodeFault} (Err e) Unlawful ↔ ((BeginsWithCode w block n bits → ⊥) × (IsBeginning w block n bits → ⊥))
  answer_fault_unlawful e read =
      let both = fault_unlawful e read in
      (λ k. both.0 (let same : e ≡ Unlawful = cc in same), λ p. ap Err (both.1 p))

  pub answer_ok : (xs : List ℤ) (rest : List Bool) (bytes : ℕ) → code_at w block n bits ≡ Ok (xs, rest) → bytes ≡ (length bits - length rest + 7) / 8 → BeginsWithCode w block n bits
  answer_ok xs rest bytes read size = (xs, bytes, begins_len xs rest read, begins xs rest bytes read size)

  pub answer_ended : (xs : List ℤ) (rest : List Bool) (bytes : ℕ) → code_at w block n bits ≡ Ok (xs, rest) → IsErrOf {T = ℕ} {E = CodeFault} (Ok bytes) Ended ↔ IsBeginning w block n bits
  answer_ended xs rest bytes read = (λ k. cc, λ b. absurd (no_beginning xs rest read b))

  pub answer_unlawful : (xs : List ℤ) (rest : List Bool) (bytes : ℕ) → code_at w block n bits ≡ Ok (xs, rest) → bytes ≡ (length bits - length rest + 7) / 8 → IsErrOf {T = ℕ} {E = CodeFault} (Ok bytes) Unlawful ↔ ((BeginsWithCode w block n bits → ⊥) × (IsBeginning w block n bits → ⊥))
  answer_unlawful xs rest bytes read size = (λ k. cc, λ p. absurd (p.0 (answer_ok xs rest bytes read size)))

pub code_start_fault : (w block n : ℕ) (bits : List Bool) (e : CodeFault) → number_at w bits ≡ Err e → code_at w block n bits ≡ Err e
code_start_fault w block n bits e one = ap (λ r. and_then r (λ start rest. reading_map (numbers_from w start) (blocks_at w block n n rest))) one

pub code_blocks_fault : (w block n start : ℕ) (bits rest : List Bool) (e : CodeFault) → number_at w bits ≡ Ok (start, rest) → blocks_at w block n n rest ≡ Err e → code_at w block n bits ≡ Err e
code_blocks_fault w block n start bits rest e one two =
    ap (λ r. and_then r (λ s x. reading_map (numbers_from w s) (blocks_at w block n n x))) one ∙ ap (reading_map (numbers_from w start)) two

pub code_read : (w block n start last : ℕ) (bits more rest : List Bool) (xs : List ℤ) → number_at w bits ≡ Ok (start, more) → GivesNumbers w start (blocks_at w block n n more) xs last rest → code_at w block n bits ≡ Ok (xs, rest)
code_read w block n start last bits more rest xs one gives =
    ap (λ r. and_then r (λ s x. reading_map (numbers_from w s) (blocks_at w block n n x))) one ∙ ap (reading_map (numbers_from w start)) gives.is ∙ ap (λ l. Ok (l, rest)) (sym gives.numbers_are)

-- bits in whole bytes
pub eighths : (n : ℕ) → div_ceil n 8 ≡ (n + 7) / 8
eighths n = omega arith
