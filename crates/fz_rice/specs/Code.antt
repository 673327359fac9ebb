-- The RICE_1 code of a list of numbers (FITS 4.0, section 10.4.1): a start value, and then blocks of
-- mapped differences, each after an id that says how they are written.
use Rattle.std.specs.Prelude.{◌≡◌, ℕ, zero, suc, ◌+◌, ◌-◌, ◌*◌, ◌/◌, ◌%◌, ◌^◌, ◌<◌, ◌≤◌, ◌==◌, nat_lt, Bool, true}
use Rattle.std.specs.Prelude.{false, ℤ, List, [], ◌∷◌, ◌++◌, length, take, drop, replicate, All, if◌then◌else◌}
use Rattle.std.specs.List.{flat_map}
use Rattle.fz_bits.specs.Bits.{number_bits}
use Rattle.fz_rice.specs.Numbers.{IsNumber, residue}

-- the parameters of a width
pub record Row : Type 0 where
  pub id_len : ℕ
  pub raw_id : ℕ

-- An id has so many bits. Id 0 means zeros, an id from 1 to below the raw one for k, which is one
-- less: at most 5, 13 and 24. Ids above the raw one are unlawful.
abbrev pub row : ℕ → Row
row w = if w == 8 then record { id_len = 3; raw_id = 7 } else (if w == 16 then record { id_len = 4; raw_id = 15 } else record { id_len = 5; raw_id = 26 })

-- what leads from one residue to the next, modulo 2 ^ w
abbrev pub difference : ℕ → ℕ → ℕ → ℕ
difference w last next = (next + (2 ^ w - last)) % 2 ^ w

-- A difference d is taken as signed in w bits: 2d if it is 0 or more, and -2d - 1 if it is below.
abbrev pub mapped : ℕ → ℕ → ℕ
mapped w d = if nat_lt d (2 ^ (w - 1)) then 2 * d else 2 * (2 ^ w - d) - 1

-- the mapped differences of numbers, the first one from the residue `last`
abbrev pub differences : ℕ → ℕ → List ℤ → List ℕ
differences w last [] = []
differences w last (x ∷ xs) = mapped w (difference w last (residue w x)) ∷ differences w (residue w x) xs

-- a value in unary and binary: v div 2 ^ k zeros, a one, and the last k bits of v
abbrev pub split_bits : ℕ → ℕ → List Bool
split_bits k v = replicate (v / 2 ^ k) false ++ true ∷ number_bits k v

-- the bits of values after a lawful id
abbrev pub values_bits : ℕ → ℕ → List ℕ → List Bool
values_bits w id vs = if id == 0 then [] else (if id == (row w).raw_id then flat_map (number_bits w) vs else flat_map (split_bits (id - 1)) vs)

-- a block: its id, and its values after it
abbrev pub block_bits : ℕ → ℕ → List ℕ → List Bool
block_bits w id vs = number_bits (row w).id_len id ++ values_bits w id vs

-- the id is lawful and can hold the values: id 0 holds only zeros
abbrev pub CanHold : ℕ → ℕ → List ℕ → Type 0
CanHold w id vs = (id ≤ (row w).raw_id) × (id ≡ 0 → vs ≡ replicate (length vs) 0)

-- at most n pieces of a list, each of `block` values, the last one of fewer
abbrev pub pieces_of : ℕ → ℕ → List ℕ → List (List ℕ)
pieces_of zero block vs = []
pieces_of (suc n) block [] = []
pieces_of (suc n) block (v ∷ vs) = take block (v ∷ vs) ∷ pieces_of n block (drop block (v ∷ vs))

-- a list cut into pieces of `block` values
abbrev pub pieces : ℕ → List ℕ → List (List ℕ)
pieces block vs = pieces_of (length vs) block vs

-- the bits are blocks of the pieces, each with an id that can hold it
abbrev pub AreBlocks : ℕ → List (List ℕ) → List Bool → Type 0
AreBlocks w [] bits = bits ≡ []
AreBlocks w (vs ∷ more) bits = (id : ℕ) × (rest : List Bool) × CanHold w id vs × AreBlocks w more rest × (bits ≡ block_bits w id vs ++ rest)

-- the bits are a code of the numbers, with any start value and any lawful id for each block
pub record IsRiceCode (w block : ℕ) (xs : List ℤ) (bits : List Bool) : Type 0 where
  pub numbers : All (IsNumber w) xs
  pub start : ℕ
  pub start_fits : start < 2 ^ w
  pub blocks : List Bool
  pub are_blocks : AreBlocks w (pieces block (differences w start xs)) blocks
  pub is : bits ≡ number_bits w start ++ blocks
