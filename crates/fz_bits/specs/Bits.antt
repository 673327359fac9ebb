-- Bits of numbers and bytes, the most significant first (FITS 4.0, section 10.4.1).
use Rattle.std.specs.Prelude.{◌≡◌, ℕ, zero, suc, ◌+◌, ◌-◌, ◌*◌, ◌/◌, ◌%◌, ◌^◌, ◌≤◌, ◌==◌, Bool}
use Rattle.std.specs.Prelude.{true, false, List, [], ◌∷◌, ◌++◌, length, map, take, drop, replicate}
use Rattle.std.specs.List.{range_with_len}

-- the last bit of a number: a one if the number is odd
abbrev pub last_bit : ℕ → Bool
last_bit v = v % 2 == 1

-- the last `width` bits of v
unfoldable pub number_bits : ℕ → ℕ → List Bool
number_bits zero v = []
number_bits (suc width) v = number_bits width (v / 2) ++ last_bit v ∷ []

-- eight bits for each byte
unfoldable pub bits_of : List ℕ → List Bool
bits_of [] = []
bits_of (b ∷ bytes) = number_bits 8 b ++ bits_of bytes

-- how many zero bits fill so many bits up to whole bytes
abbrev pub fill_len : ℕ → ℕ
fill_len n = (8 - n % 8) % 8

-- bits, and zero bits up to whole bytes
abbrev pub filled : List Bool → List Bool
filled bits = bits ++ replicate (fill_len (length bits)) false

-- a bit as a number
unfoldable pub bit : Bool → ℕ
bit true = 1
bit false = 0

-- the number of bits, the most significant first
unfoldable pub bits_value : List Bool → ℕ
bits_value [] = 0
bits_value (b ∷ bits) = bit b * 2 ^ length bits + bits_value bits

-- the bytes of bits, of eight each
unfoldable pub bytes_of : List Bool → List ℕ
bytes_of bits = map (λ i. bits_value (take 8 (drop (8 * i) bits))) (range_with_len 0 (length bits / 8))

-- the first bits of a number of 64 are the first of a list, `count` or more of them, and zeros are after
pub record IsAhead (count word : ℕ) (bits : List Bool) : Type 0 where
  pub many : ℕ
  pub enough : count ≤ many
  pub few : many ≤ 64
  pub is : number_bits 64 word ≡ take many bits ++ replicate (64 - many) false
