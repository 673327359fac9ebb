-- What the laws say, over only the definitions.
use Rattle.std.specs.Prelude.{◌≡◌, ℕ, ◌+◌, ◌*◌, ◌/◌, ◌%◌, ◌^◌, ◌<◌, Bool, List, ◌++◌, length, All}
use Rattle.fz_bits.specs.Bits.{number_bits, bits_of, bits_value, bytes_of}

-- the last bits of a number: how many they are, the first and the last of them, and that they and their value undo each other
pub record NumberLaws : Type 0 where
  pub many : (n v : ℕ) → length (number_bits n v) ≡ n
  pub joined : (m n v : ℕ) → number_bits (m + n) v ≡ number_bits m (v / 2 ^ n) ++ number_bits n v
  pub last : (n v : ℕ) → number_bits n (v % 2 ^ n) ≡ number_bits n v
  pub value : (n v : ℕ) → v < 2 ^ n → bits_value (number_bits n v) ≡ v
  pub bits : (bits : List Bool) → number_bits (length bits) (bits_value bits) ≡ bits
  pub below : (bits : List Bool) → bits_value bits < 2 ^ length bits
  pub joined_value : (front back : List Bool) → bits_value (front ++ back) ≡ bits_value front * 2 ^ length back + bits_value back

-- a byte has eight bits
abbrev pub HasEightBits : Type 0
HasEightBits = (bytes : List ℕ) → length (bits_of bytes) ≡ 8 * length bytes

-- whole bytes are as many as their bits say
abbrev pub HasWholeBytes : Type 0
HasWholeBytes = (bits : List Bool) → length (bytes_of bits) ≡ length bits / 8

-- the bits of the bytes of bits are these bits, if they are whole bytes
abbrev pub GivesBitsAgain : Type 0
GivesBitsAgain = (bits : List Bool) → length bits % 8 ≡ 0 → bits_of (bytes_of bits) ≡ bits

-- the bytes of the bits of bytes are these bytes
abbrev pub GivesBytesAgain : Type 0
GivesBytesAgain = (bytes : List ℕ) → All (λ byte. byte < 256) bytes → bytes_of (bits_of bytes) ≡ bytes
