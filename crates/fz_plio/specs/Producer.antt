-- The line list that this crate writes (FITS 4.0, section 10.4.3).
use Rattle.std.specs.Prelude.{ℕ, ◌+◌, ◌-◌, ◌/◌, ◌%◌, ◌^◌, ◌<◌, ℤ, pos, ◌≤ℤ◌, ◌<ℤ◌, nat_abs, Bool, ◌&&◌}
use Rattle.std.specs.Prelude.{not, List, [], ◌∷◌, ◌++◌, length, take, map, replicate, slice_index_or}
use Rattle.std.specs.Prelude.{Some, None, All, sum_by, if◌then◌else◌, ◌==◌, nat_lt, negsuc, true, false}
use Rattle.std.specs.List.{flat_map}
use Rattle.fz_plio.specs.Words.{word_bytes}
use Rattle.fz_plio.specs.Instructions.{Instruction, instruction_words}

-- a line list can hold the number
abbrev pub InRange : ℤ → Type 0
InRange z = (pos 0 ≤ℤ z) × (z <ℤ pos (2 ^ 24))

-- the test of it, for one number and for all of a line
abbrev pub can_hold : ℤ → Bool
can_hold (pos n) = nat_lt n (2 ^ 24)
can_hold (negsuc n) = false

unfoldable pub can_hold_all : List ℤ → Bool
can_hold_all [] = true
can_hold_all (z ∷ rest) = can_hold z && can_hold_all rest

-- the first number that no line list can hold
pub record IsFirstOutside (numbers : List ℤ) (index : ℕ) : Type 0 where
  pub within : index < length numbers
  pub outside : InRange (slice_index_or numbers index (pos 0)) → ⊥
  pub first : All InRange (take index numbers)

-- a maximal run of equal numbers above 0, and the length of the zero run directly before it
pub record Run : Type 0 where
  pub zeros : ℕ
  pub value : ℕ
  pub count : ℕ

-- the runs with one more zero in front
abbrev pub after_zero : List Run → List Run
after_zero [] = []
after_zero (r ∷ rest) = record { zeros = r.zeros + 1; value = r.value; count = r.count } ∷ rest

-- the runs with the number v in front, which joins the first run if that is of v and directly after
abbrev pub after_number : ℕ → List Run → List Run
after_number v [] = record { zeros = 0; value = v; count = 1 } ∷ []
after_number v (r ∷ rest) =
    if r.zeros == 0 && r.value == v then record { zeros = 0; value = v; count = r.count + 1 } ∷ rest
    else record { zeros = 0; value = v; count = 1 } ∷ r ∷ rest

-- the maximal runs of numbers above 0, in order
unfoldable pub runs : List ℕ → List Run
runs [] = []
runs (v ∷ rest) = if v == 0 then after_zero (runs rest) else after_number v (runs rest)

-- the zeros after the last run: the numbers that belong to no run
unfoldable pub last_zeros : List ℕ → ℕ
last_zeros numbers = length numbers - sum_by (λ r. r.zeros + r.count) (runs numbers)

-- an instruction of one word
abbrev pub instruction : ℕ → ℕ → Instruction
instruction operation number = record { operation = operation; number = number; second = None }

-- pieces of at most 4095, all but the last 4095
unfoldable pub pieces : ℕ → List ℕ
pieces n = if n == 0 then [] else replicate ((n - 1) / 4095) 4095 ++ ((n - 1) % 4095 + 1) ∷ []

-- an operation in such pieces
abbrev pub in_pieces : ℕ → ℕ → List Instruction
in_pieces operation n = map (instruction operation) (pieces n)

-- how far two numbers are apart
abbrev pub difference : ℕ → ℕ → ℕ
difference h v = (h - v) + (v - h)

-- the high value becomes v
unfoldable pub high_change : ℕ → ℕ → List Instruction
high_change h v =
    if h == v then []
    else if nat_lt 4095 (difference h v) then record { operation = 1; number = v % 4096; second = Some (v / 4096) } ∷ []
    else if nat_lt h v then instruction 2 (v - h) ∷ []
    else instruction 3 (h - v) ∷ []

-- the zeros before a run and then the run; the last piece of zeros takes a single number with it
-- if there is room for it
unfoldable pub zeros_and_highs : ℕ → ℕ → List Instruction
zeros_and_highs zeros count =
    let last = (zeros - 1) % 4095 + 1 in
    if count == 1 && nat_lt 0 zeros && nat_lt last 4095
    then replicate ((zeros - 1) / 4095) (instruction 0 4095) ++ instruction 5 (last + 1) ∷ []
    else in_pieces 0 zeros ++ in_pieces 4 count

-- the run is a single number, no zeros before it, whose value is near the high value h and not h
abbrev pub is_single_step : ℕ → Run → Bool
is_single_step h r = r.count == 1 && r.zeros == 0 && not (h == r.value) && nat_lt (difference h r.value) 4096

-- the instructions of a run, from the high value h
unfoldable pub run_instructions : ℕ → Run → List Instruction
run_instructions h r =
    if is_single_step h r
    then (if nat_lt h r.value then instruction 6 (r.value - h) else instruction 7 (h - r.value)) ∷ []
    else high_change h r.value ++ zeros_and_highs r.zeros r.count

-- the instructions of the runs: each leaves its value as the high value
unfoldable pub all_run_instructions : ℕ → List Run → List Instruction
all_run_instructions h [] = []
all_run_instructions h (r ∷ rest) = run_instructions h r ++ all_run_instructions r.value rest

-- the instructions of a line, from the high value h
abbrev pub line_instructions : ℕ → List ℕ → List Instruction
line_instructions h numbers = all_run_instructions h (runs numbers) ++ in_pieces 0 (last_zeros numbers)

-- the words after the header
unfoldable pub body_words : ℕ → List ℕ → List ℕ
body_words h numbers = flat_map instruction_words (line_instructions h numbers)

-- the header of a list of L words: 0, 7, -100, the two parts of L, 0, 0
abbrev pub header : ℕ → List ℕ
header len = 0 ∷ 7 ∷ 65436 ∷ (len % 32768) ∷ (len / 32768) ∷ 0 ∷ 0 ∷ []

-- the words of a list with this body
abbrev pub with_header : List ℕ → List ℕ
with_header body = header (7 + length body) ++ body

-- the bytes of the producer's list; numbers in range are their own absolute values
unfoldable pub line_list : List ℤ → List ℕ
line_list numbers = word_bytes (with_header (body_words 1 (map nat_abs numbers)))
