-- The code that is written: the first number as the start value, and for each block the id below. The
-- standard leaves both to the writer, and reading does not depend on them.
use Rattle.std.specs.Prelude.{ℕ, zero, suc, ◌+◌, ◌-◌, ◌/◌, ◌==◌, nat_lt, Bool, ℤ, List, [], ◌∷◌, ◌++◌, length, sum, if◌then◌else◌}
use Rattle.std.specs.List.{flat_map}
use Rattle.fz_bits.specs.Bits.{number_bits, filled, bytes_of}
use Rattle.fz_rice.specs.Numbers.{residue}
use Rattle.fz_rice.specs.Code.{row, differences, block_bits, pieces}

-- how often, at most n times, q can be halved until it is 0
abbrev pub halvings : ℕ → ℕ → ℕ
halvings zero q = 0
halvings (suc n) q = if q == 0 then 0 else halvings n (q / 2) + 1

-- the number of binary digits of q, 0 for 0
abbrev pub binary_len : ℕ → ℕ
binary_len q = halvings q q

-- the k of a block of so many values with this sum: about the binary logarithm of half their mean; a sum
-- of at most count / 2 + 1 counts as that many, so that k is 0
abbrev pub chosen_k : ℕ → ℕ → ℕ
chosen_k count total = binary_len ((total - count / 2 - 1) / count / 2)

-- the id of a block: 0 for zeros, raw if k is above the table's greatest
abbrev pub chosen_id : ℕ → ℕ → ℕ → ℕ
chosen_id w count total = if total == 0 then 0 else (if nat_lt (chosen_k count total + 1) (row w).raw_id then chosen_k count total + 1 else (row w).raw_id)

abbrev pub chosen_block : ℕ → List ℕ → List Bool
chosen_block w vs = block_bits w (chosen_id w (length vs) (sum vs)) vs

-- the residue of the first number
abbrev pub first_residue : ℕ → List ℤ → ℕ
first_residue w [] = 0
first_residue w (x ∷ xs) = residue w x

-- the start value and the blocks
abbrev pub rice_bits : ℕ → ℕ → List ℤ → List Bool
rice_bits w block xs = number_bits w (first_residue w xs) ++ flat_map (chosen_block w) (pieces block (differences w (first_residue w xs) xs))

-- the code, filled with zeros to whole bytes
abbrev pub rice_code : ℕ → ℕ → List ℤ → List Bool
rice_code w block xs = filled (rice_bits w block xs)

-- the bytes of the code
abbrev pub rice_bytes : ℕ → ℕ → List ℤ → List ℕ
rice_bytes w block xs = bytes_of (rice_code w block xs)
