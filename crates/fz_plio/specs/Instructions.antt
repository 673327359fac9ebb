-- The instructions of a line list (FITS 4.0, section 10.4.3).
use Rattle.std.specs.Prelude.{ℕ, ◌+◌, ◌*◌, ◌/◌, ◌%◌, List, [], ◌∷◌, Option, Some, None, option_to_list, if◌then◌else◌, ◌==◌}

-- an instruction: the operation in the high 4 bits of its word, the number N in the low 12,
-- and the word after it, which only operation 1 takes
pub record Instruction : Type 0 where
  pub operation : ℕ
  pub number : ℕ
  pub second : Option ℕ

-- an instruction of one word
abbrev pub one_word : ℕ → Instruction
one_word word = record { operation = word / 4096; number = word % 4096; second = None }

-- an instruction of two words
abbrev pub two_words : ℕ → ℕ → Instruction
two_words word second = record { operation = word / 4096; number = word % 4096; second = Some second }

-- the instructions in a list of words; the second word of operation 1 is missing at the end of the list
unfoldable pub instructions : List ℕ → List Instruction
instructions [] = []
instructions (word ∷ []) = one_word word ∷ []
instructions (word ∷ second ∷ rest) =
    if word / 4096 == 1 then two_words word second ∷ instructions rest
    else one_word word ∷ instructions (second ∷ rest)

-- the words of an instruction
abbrev pub instruction_words : Instruction → List ℕ
instruction_words i = (4096 * i.operation + i.number) ∷ option_to_list i.second
