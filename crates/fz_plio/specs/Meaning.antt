-- The numbers that a line list means, and the lists that are refused (FITS 4.0, section 10.4.3).
use Rattle.std.specs.Prelude.{◌≡◌, ◌≢◌, ℕ, ◌+◌, ◌-◌, ◌*◌, ◌%◌, ◌^◌, ◌<◌, ◌≤◌, ◌⊎◌, ℤ, pos, ⊤, List, [], ◌∷◌, ◌++◌, length}
use Rattle.std.specs.Prelude.{take, drop, replicate, slice_index, Any, MatchOption, unwrap_or, if◌then◌else◌, ◌==◌}
use Rattle.fz_plio.specs.Words.{words}
use Rattle.fz_plio.specs.Instructions.{Instruction, instructions}

-- what an instruction does: the high value that it leaves, the zeros that it writes,
-- and how often it then writes the high value
pub record Effect : Type 0 where
  pub high : ℕ
  pub zeros : ℕ
  pub highs : ℕ

-- the effect with this high value, so many zeros, and the high value so often
abbrev pub does : ℕ → ℕ → ℕ → Effect
does high zeros highs = record { high = high; zeros = zeros; highs = highs }

-- the table of operations, from the high value h: N zeros; the high value becomes N and 4096 times the
-- next word, grows by N, falls by N; N times the high value; N - 1 zeros and the high value; the high
-- value grows by N, falls by N, and is written once
unfoldable pub effect : ℕ → Instruction → Effect
effect h i =
    if i.operation == 0 then does h i.number 0
    else if i.operation == 1 then does (i.number + 4096 * unwrap_or i.second 0) 0 0
    else if i.operation == 2 then does (h + i.number) 0 0
    else if i.operation == 3 then does (h - i.number) 0 0
    else if i.operation == 4 then does h 0 i.number
    else if i.operation == 5 then does h (i.number - 1) 1
    else if i.operation == 6 then does (h + i.number) 0 1
    else if i.operation == 7 then does (h - i.number) 0 1
    else does h 0 0

-- the numbers that an effect writes
abbrev pub written : Effect → List ℤ
written e = replicate e.zeros (pos 0) ++ replicate e.highs (pos e.high)

-- what the instructions write, joined: each from the high value that the one before leaves
unfoldable pub expand : ℕ → List Instruction → List ℤ
expand h [] = []
expand h (i ∷ rest) = written (effect h i) ++ expand (effect h i).high rest

-- the instruction takes more from the high value than it has, or makes it 2^24 or more
abbrev pub LeavesRange : ℕ → Instruction → Type 0
LeavesRange h i =
    (((i.operation ≡ 3) ⊎ (i.operation ≡ 7)) × (h < i.number)) ⊎ (2 ^ 24 ≤ (effect h i).high)

-- some instruction leaves the range of the high value
unfoldable pub SomeLeavesRange : ℕ → List Instruction → Type 0
SomeLeavesRange h [] = ⊥
SomeLeavesRange h (i ∷ rest) = LeavesRange h i ⊎ SomeLeavesRange (effect h i).high rest

-- why the instructions give no line of n numbers from the high value h
pub data AreRefused (n h : ℕ) (is : List Instruction) : Type 0 where
  -- one writes past n
  past_end : n < length (expand h is) → AreRefused n h is
  -- the high value leaves 0 to 2^24 - 1
  out_of_range : SomeLeavesRange h is → AreRefused n h is
  -- operation 5 has N = 0
  no_high : Any (λ i. (i.operation ≡ 5) × (i.number ≡ 0)) is → AreRefused n h is
  -- an operation is 8 to 15
  unknown : Any (λ i. 8 ≤ i.operation) is → AreRefused n h is
  -- the second word of operation 1 is missing or above 4095
  no_second :
      Any (λ i. (i.operation ≡ 1) × MatchOption i.second ⊤ (λ second. 4095 < second)) is
      → AreRefused n h is

-- L, the number of words of the list, header and all
abbrev pub list_len : List ℕ → ℕ
list_len code = slice_index (words code) 3 + 32768 * slice_index (words code) 4

-- the instructions of a list: its words from word 7 on, up to L
abbrev pub instructions_of : List ℕ → List Instruction
instructions_of code = instructions (take (list_len code - 7) (drop 7 (words code)))

-- why the bytes are no line list of n numbers
pub data IsRefused (n : ℕ) (code : List ℕ) : Type 0 where
  -- a byte is left after the last word, or the header is cut off
  odd : length code % 2 ≡ 1 → IsRefused n code
  short : length code < 14 → IsRefused n code
  -- word 1, the length of the header, is not 7
  header_length : slice_index (words code) 1 ≢ 7 → IsRefused n code
  -- word 2 as a signed number is positive, as in the old header
  old_header : 0 < slice_index (words code) 2 → slice_index (words code) 2 < 2 ^ 15 → IsRefused n code
  -- word 3 or word 4, the two parts of L, is above 32767
  length_low : 32767 < slice_index (words code) 3 → IsRefused n code
  length_high : 32767 < slice_index (words code) 4 → IsRefused n code
  -- L ends in the header, or after the words
  too_short : list_len code < 7 → IsRefused n code
  too_long : length (words code) < list_len code → IsRefused n code
  -- an instruction is refused
  instruction : AreRefused n 1 (instructions_of code) → IsRefused n code

-- the numbers of a line of n: what the instructions write, then zeros
abbrev pub line_of : ℕ → List Instruction → List ℤ
line_of n is = expand 1 is ++ replicate (n - length (expand 1 is)) (pos 0)

-- the bytes are a list that means these n numbers
pub record IsLineList (n : ℕ) (code : List ℕ) (numbers : List ℤ) : Type 0 where
  pub lawful : IsRefused n code → ⊥
  pub meaning : numbers ≡ line_of n (instructions_of code)
