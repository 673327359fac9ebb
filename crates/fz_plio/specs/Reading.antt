-- Reading a list instruction by instruction: functions on lists that the parts of the decoder compute.
-- `proofs/` join them to the meaning.
use Rattle.std.specs.Prelude.{◌≡◌, ℕ, ◌+◌, ◌-◌, ◌*◌, ◌/◌, ◌%◌, ◌^◌, ◌≤◌, ◌⊎◌, ℤ, pos, List, [], ◌∷◌, ◌++◌, length}
use Rattle.std.specs.Prelude.{replicate, slice_index, Option, Some, None, option_and_then, if◌then◌else◌, ◌==◌, nat_lt}
use Rattle.std.specs.Option.{option_map}
use Rattle.fz_plio.specs.Words.{words}
use Rattle.fz_plio.specs.Instructions.{Instruction}
use Rattle.fz_plio.specs.Meaning.{Effect, does, written, list_len}

-- an effect, if the high value h + n is in range
abbrev pub raised : ℕ → ℕ → ℕ → Option Effect
raised h n highs = if nat_lt (h + n) (2 ^ 24) then Some (does (h + n) 0 highs) else None

-- an effect, if the high value h - n is in range
abbrev pub lowered : ℕ → ℕ → ℕ → Option Effect
lowered h n highs = if nat_lt h n then None else Some (does (h - n) 0 highs)

-- the effect of an instruction of one word, none if it is refused
abbrev pub one_word_effect : ℕ → ℕ → ℕ → Option Effect
one_word_effect h operation n =
    if operation == 0 then Some (does h n 0)
    else if operation == 2 then raised h n 0
    else if operation == 3 then lowered h n 0
    else if operation == 4 then Some (does h 0 n)
    else if operation == 5 then (if n == 0 then None else Some (does h (n - 1) 1))
    else if operation == 6 then raised h n 1
    else if operation == 7 then lowered h n 1
    else None

-- the effect of operation 1, and the words after it; none if its second word is missing or
-- above 4095
abbrev pub two_word_effect : ℕ → List ℕ → Option (Effect × List ℕ)
two_word_effect n [] = None
two_word_effect n (second ∷ rest) = if nat_lt 4095 second then None else Some (does (n + 4096 * second) 0 0, rest)

-- the effect of the first instruction of a list of words, and the words after it; none if it is refused
abbrev pub next_effect : ℕ → List ℕ → Option (Effect × List ℕ)
next_effect h [] = None
next_effect h (word ∷ rest) =
    if word / 4096 == 1 then two_word_effect (word % 4096) rest
    else option_map (λ e. (e, rest)) (one_word_effect h (word / 4096) (word % 4096))

-- the effect of an instruction, none if it is refused
unfoldable pub checked_effect : ℕ → Instruction → Option Effect
checked_effect h i =
    if i.operation == 1
    then option_and_then (λ second. if nat_lt 4095 second then None else Some (does (i.number + 4096 * second) 0 0)) i.second
    else one_word_effect h i.operation i.number

-- what an effect writes and what follows it, none if it does not fit in the room
abbrev pub with_effect : ℕ → Option Effect → (ℕ → ℕ → Option (List ℤ)) → Option (List ℤ)
with_effect room None next = None
with_effect room (Some e) next =
    if nat_lt room (e.zeros + e.highs) then None
    else option_map (λ numbers. written e ++ numbers) (next (room - (e.zeros + e.highs)) e.high)

-- the numbers of the room that is left, from the high value h; none if an instruction is refused
unfoldable pub line_from : ℕ → ℕ → List Instruction → Option (List ℤ)
line_from room h [] = Some (replicate room (pos 0))
line_from room h (i ∷ rest) = with_effect room (checked_effect h i) (λ left high. line_from left high rest)

-- the list has whole words and a lawful header
pub record HasHeader (code : List ℕ) : Type 0 where
  pub even : length code % 2 ≡ 0
  pub long : 14 ≤ length code
  pub header_length : slice_index (words code) 1 ≡ 7
  pub new_header : (slice_index (words code) 2 ≡ 0) ⊎ (2 ^ 15 ≤ slice_index (words code) 2)
  pub length_low : slice_index (words code) 3 ≤ 32767
  pub length_high : slice_index (words code) 4 ≤ 32767
  pub after_header : 7 ≤ list_len code
  pub within : list_len code ≤ length (words code)
