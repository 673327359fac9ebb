-- A list with a lawful header is refused exactly where its instructions are.
use Rattle.std.proofs.Common.{◌≡◌, ℕ, ◌-◌, ◌*◌, ◌/◌, inl, inr, ◌↔◌, Bool, true, false, cond, List, [], ◌∷◌, ℤ, Some, None, Result, Ok, Err, take, drop, refl, sym, ap, ◌∙◌, subst, arith, eqb}
use Rattle.std.specs.Prelude.{MatchResult, OnOk, IsErr}
use Rattle.fz_plio.specs.Words.{words}
use Rattle.fz_plio.specs.Instructions.{Instruction, instructions, one_word, two_words}
use Rattle.fz_plio.specs.Meaning.{AreRefused, IsRefused, odd, short, header_length, old_header, length_low, length_high, too_short, too_long, instruction, list_len, instructions_of, line_of, IsLineList}
use Rattle.fz_plio.specs.Reading.{line_from, HasHeader}
use Rattle.fz_plio.proofs.WordLemmas.{words-take, words-drop}
use Rattle.fz_plio.proofs.MeaningLemmas.{line_from-Some, line_from-None}
use Rattle.fz_plio.proofs.RefusalLemmas.{AreNumbered}

-- the number of an instruction that is read from words has 12 bits
pub instructions_numbered : (ws : List ℕ) → AreNumbered (instructions ws)
unfolding instructions
instructions_numbered [] = tt
instructions_numbered (word ∷ []) = (omega arith, tt)
instructions_numbered (word ∷ second ∷ rest) =
    by_test (eqb (word / 4096) 1) (instructions_numbered rest) (instructions_numbered (second ∷ rest))
  where
    by_test : (b : Bool) → AreNumbered (instructions rest) → AreNumbered (instructions (second ∷ rest)) → AreNumbered (cond b (two_words word second ∷ instructions rest) (one_word word ∷ instructions (second ∷ rest)))
    by_test true after_two after_one = (omega arith, after_two)
    by_test false after_two after_one = (omega arith, after_one)

-- the instructions of a list, from its bytes after the header
pub instructions_of-bytes : (code : List ℕ) → words (take (2 * (list_len code - 7)) (drop 14 code)) ≡ take (list_len code - 7) (drop 7 (words code))
instructions_of-bytes code = words-take (list_len code - 7) (drop 14 code) ∙ ap (take (list_len code - 7)) (words-drop 7 code)

-- after a lawful header, only the instructions can refuse the list
refused_instructions : (n : ℕ) (code : List ℕ) → HasHeader code → IsRefused n code → AreRefused n 1 (instructions_of code)
refused_instructions n code header (odd p) = absurd (omega (arith, header.even))
refused_instructions n code header (short p) = absurd (omega (arith, header.long))
refused_instructions n code header (header_length p) = absurd (p header.header_length)
refused_instructions n code header (old_header p q) = elim header.new_header [ inl x ↦ absurd (omega arith) | inr x ↦ absurd (omega arith) ]
refused_instructions n code header (length_low p) = absurd (omega (arith, header.length_low))
refused_instructions n code header (length_high p) = absurd (omega (arith, header.length_high))
refused_instructions n code header (too_short p) = absurd (omega (arith, header.after_header))
refused_instructions n code header (too_long p) = absurd (omega (arith, header.within))
refused_instructions n code header (instruction r) = r

-- what reading the instructions answers decides what decoding the list answers
pub decided : {A E : Type 0} (r : Result A E) (n : ℕ) (code : List ℕ) (is : List Instruction) (numbers : List ℤ) → HasHeader code → is ≡ instructions_of code → AreNumbered is → MatchResult r (λ _. line_from n 1 is ≡ Some numbers) (λ _. line_from n 1 is ≡ None) → (IsErr r ↔ IsRefused n code) × OnOk r (IsLineList n code numbers)
decided (Ok x) n code is numbers header same numbered line =
    let read = line_from-Some is n 1 numbers (omega arith) numbered line in
    let lawful : IsRefused n code → ⊥ = λ r. read.lawful (subst (λ (js : List Instruction). AreRefused n 1 js) (sym same) (refused_instructions n code header r)) in
    (((λ e. cc), (λ r. absurd (lawful r))), record { lawful = lawful; meaning = subst (λ (js : List Instruction). numbers ≡ line_of n js) same read.meaning })
decided (Err x) n code is numbers header same numbered line =
    (((λ e. instruction (subst (λ (js : List Instruction). AreRefused n 1 js) same (line_from-None is n 1 (omega arith) numbered line))), (λ r. refl)), tt)
