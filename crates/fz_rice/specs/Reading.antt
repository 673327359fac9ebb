-- The code read from a list of bits, bit by bit: the plain program beside the relation.
use Rattle.std.specs.Prelude.{ℕ, zero, suc, ◌+◌, ◌-◌, ◌*◌, ◌/◌, ◌%◌, ◌^◌, ◌<◌, ◌==◌, nat_lt, min, Bool, true, false, ℤ, pos, negsuc}
use Rattle.std.specs.Prelude.{List, [], ◌∷◌, ◌++◌, length, take, drop, replicate, Result, Ok, Err, if◌then◌else◌, MatchResult, ◌≡◌}
use Rattle.fz_bits.specs.Bits.{bits_value, number_bits}
use Rattle.fz_bits.specs.Reader.{left, place}
use Rattle.fz_bits.specs.declared.reader.BitReader.{BitReader}
use Rattle.fz_rice.specs.Code.{row}
use Rattle.fz_rice.specs.declared.coder.CodeFault.{CodeFault}
use Rattle.fz_rice.specs.declared.coder.CodeFault.TheVariants.{Ended, Unlawful}

-- a value and the bits that are left, or why there is none
abbrev pub Reading : Type 0 → Type 0
Reading A = Result (A × List Bool) CodeFault

-- what the next reader makes of a value and the bits after it
abbrev pub and_then : {A B : Type 0} → Reading A → (A → List Bool → Reading B) → Reading B
and_then (Ok p) next = next p.0 p.1
and_then (Err e) next = Err e

-- the value seen by h
abbrev pub reading_map : {A B : Type 0} → (A → B) → Reading A → Reading B
reading_map h (Ok p) = Ok (h p.0, p.1)
reading_map h (Err e) = Err e

-- a number of m bits
abbrev pub number_at : ℕ → List Bool → Reading ℕ
number_at m bits = if nat_lt (length bits) m then Err Ended else Ok (bits_value (take m bits), drop m bits)

-- zeros, at most max, and a one
unfoldable pub zeros_at : ℕ → List Bool → Reading ℕ
zeros_at max [] = Err Ended
zeros_at max (true ∷ bits) = Ok (0, bits)
zeros_at zero (false ∷ bits) = Err Unlawful
zeros_at (suc max) (false ∷ bits) = reading_map (λ n. suc n) (zeros_at max bits)

-- the greatest v div 2 ^ k of a value of w bits
abbrev pub most_zeros : ℕ → ℕ → ℕ
most_zeros w k = (2 ^ w - 1) / 2 ^ k

-- a value of w bits in unary and k bits
abbrev pub split_at : ℕ → ℕ → List Bool → Reading ℕ
split_at w k bits = and_then (zeros_at (most_zeros w k) bits) (λ q rest. reading_map (λ low. q * 2 ^ k + low) (number_at k rest))

-- so many values, one after another
unfoldable pub many_at : (List Bool → Reading ℕ) → ℕ → List Bool → Reading (List ℕ)
many_at read zero bits = Ok ([], bits)
many_at read (suc n) bits = and_then (read bits) (λ v rest. reading_map (λ vs. v ∷ vs) (many_at read n rest))

-- an id of n bits, at most `most`; a part of one is Ended only if an id can begin so
abbrev pub id_at : ℕ → ℕ → List Bool → Reading ℕ
id_at n most bits =
    if nat_lt (length bits) n then (if nat_lt most (bits_value bits * 2 ^ (n - length bits)) then Err Unlawful else Err Ended)
    else (if nat_lt most (bits_value (take n bits)) then Err Unlawful else Ok (bits_value (take n bits), drop n bits))

-- n values after an id
abbrev pub values_at : ℕ → ℕ → ℕ → List Bool → Reading (List ℕ)
values_at w n id bits =
    if id == 0 then Ok (replicate n 0, bits)
    else (if id == (row w).raw_id then many_at (number_at w) n bits else many_at (split_at w (id - 1)) n bits)

-- a block of n values
abbrev pub block_at : ℕ → ℕ → List Bool → Reading (List ℕ)
block_at w n bits = and_then (id_at (row w).id_len (row w).raw_id bits) (values_at w n)

-- n values in at most `fuel` blocks
unfoldable pub blocks_at : ℕ → ℕ → ℕ → ℕ → List Bool → Reading (List ℕ)
blocks_at w block fuel zero bits = Ok ([], bits)
blocks_at w block zero (suc n) bits = Ok ([], bits)
blocks_at w block (suc fuel) (suc n) bits =
    and_then (block_at w (min block (suc n)) bits)
    (λ vs rest. reading_map (λ more. vs ++ more) (blocks_at w block fuel (suc n - block) rest))

-- the number of a residue
abbrev pub number : ℕ → ℕ → ℤ
number w u = if w == 8 then pos u else (if nat_lt u (2 ^ (w - 1)) then pos u else negsuc (2 ^ w - 1 - u))

-- the difference that is mapped to v
abbrev pub unmapped : ℕ → ℕ → ℕ
unmapped w v = if v % 2 == 0 then v / 2 else 2 ^ w - 1 - v / 2

-- the residue after `last` whose mapped difference is v
abbrev pub next_residue : ℕ → ℕ → ℕ → ℕ
next_residue w last v = (last + unmapped w v) % 2 ^ w

-- the residue after the last of mapped differences
abbrev pub last_of : ℕ → ℕ → List ℕ → ℕ
last_of w last [] = last
last_of w last (v ∷ vs) = last_of w (next_residue w last v) vs

-- the numbers of mapped differences
abbrev pub numbers_from : ℕ → ℕ → List ℕ → List ℤ
numbers_from w last [] = []
numbers_from w last (v ∷ vs) = number w (next_residue w last v) ∷ numbers_from w (next_residue w last v) vs

-- a whole code of n numbers
abbrev pub code_at : ℕ → ℕ → ℕ → List Bool → Reading (List ℤ)
code_at w block n bits = and_then (number_at w bits) (λ start rest. reading_map (numbers_from w start) (blocks_at w block n n rest))

-- a call read what the plain program reads, and `rest` is left
abbrev pub Reads : {A : Type 0} → Reading A → Result A CodeFault → List Bool → Type 0
Reads read result rest = MatchResult result (λ a. read ≡ Ok (a, rest)) (λ e. read ≡ Err e)

-- numbers that were read: their mapped differences are what the plain program reads, `rest` is left,
-- and `last` is the residue of the last number
pub record GivesNumbers (w start : ℕ) (read : Reading (List ℕ)) (numbers : List ℤ) (last : ℕ) (rest : List Bool) : Type 0 where
  pub values : List ℕ
  pub is : read ≡ Ok (values, rest)
  pub numbers_are : numbers ≡ numbers_from w start values
  pub last_is : last ≡ last_of w start values

-- a call read numbers, or met the fault that the plain program meets
abbrev pub ReadsNumbers : ℕ → ℕ → Reading (List ℕ) → List ℤ → Result ℕ CodeFault → List Bool → Type 0
ReadsNumbers w start read numbers result rest = MatchResult result (λ last. GivesNumbers w start read numbers last rest) (λ e. read ≡ Err e)

-- the bits read and the bits that are left
abbrev pub bit_count : BitReader → ℕ
bit_count r = place r + length (left r)

-- at the top of a word of 64 bits are zeros, a one and k bits, and the bits after them are the first ones of `rest`
pub record IsPiece (k word value width rest : ℕ) : Type 0 where
  pub zeros : ℕ
  pub low : ℕ
  pub size : width ≡ zeros + (k + 1)
  pub fits : low < 2 ^ k
  pub front : take width (number_bits 64 word) ≡ replicate zeros false ++ true ∷ number_bits k low
  pub behind : take (64 - width) (number_bits 64 rest) ≡ drop width (number_bits 64 word)
  pub exact : zeros * 2 ^ k + low < 2 ^ 32 → value ≡ zeros * 2 ^ k + low

-- four values that were read one after another
pub record ReadsFour (read : List Bool → Reading ℕ) (a b c d : ℕ) (bits rest : List Bool) : Type 0 where
  pub second : List Bool
  pub third : List Bool
  pub fourth : List Bool
  pub a_is : read bits ≡ Ok (a, second)
  pub b_is : read second ≡ Ok (b, third)
  pub c_is : read third ≡ Ok (c, fourth)
  pub d_is : read fourth ≡ Ok (d, rest)

-- the same of two values
pub record ReadsTwo (read : List Bool → Reading ℕ) (a b : ℕ) (bits rest : List Bool) : Type 0 where
  pub second : List Bool
  pub a_is : read bits ≡ Ok (a, second)
  pub b_is : read second ≡ Ok (b, rest)
