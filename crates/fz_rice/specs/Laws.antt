-- What the laws of readings say, over only the definitions.
use Rattle.std.specs.Prelude.{◌≡◌, ℕ, ◌≤◌, ◌⊎◌, Bool, ℤ, List, ◌++◌, length, All}
use Rattle.fz_bits.specs.Bits.{bits_of}
use Rattle.fz_rice.specs.Numbers.{IsWidth, IsNumber}
use Rattle.fz_rice.specs.Code.{IsRiceCode}
use Rattle.fz_rice.specs.Producer.{rice_bits, rice_code, rice_bytes}
use Rattle.fz_rice.specs.Prefix.{BeginsWith, BeginsWithCode, IsBeginning}

-- bits begin with at most one code of so many numbers: it has one list of numbers, and takes as many bytes
abbrev pub HasOneReading : Type 0
HasOneReading = (w block : ℕ) (xs ys : List ℤ) (bytes more : ℕ) (bits : List Bool) → IsWidth w → 1 ≤ block
    → length ys ≡ length xs → BeginsWith w block xs bytes bits → BeginsWith w block ys more bits → (ys ≡ xs) × (more ≡ bytes)

-- bits that begin with a code are no proper prefix of one
abbrev pub IsNoBeginning : Type 0
IsNoBeginning = (w block n : ℕ) (bits : List Bool) → IsWidth w → 1 ≤ block
    → BeginsWithCode w block n bits → ¬ IsBeginning w block n bits

-- bits begin with a code, or are a proper prefix of one, or neither
abbrev pub HasSomeAnswer : Type 0
HasSomeAnswer = (w block n : ℕ) (bits : List Bool) → IsWidth w → 1 ≤ block
    → BeginsWithCode w block n bits ⊎ (IsBeginning w block n bits ⊎ (¬ BeginsWithCode w block n bits × ¬ IsBeginning w block n bits))

-- what is written is a code of the numbers, and zeros after it
abbrev pub IsItsCode : Type 0
IsItsCode = (w block : ℕ) (xs : List ℤ) → IsWidth w → 1 ≤ block → All (IsNumber w) xs
    → IsRiceCode w block xs (rice_bits w block xs) × ((fill : List Bool) × (rice_code w block xs ≡ rice_bits w block xs ++ fill))

-- the bytes of the code have its bits
abbrev pub HasCodeBits : Type 0
HasCodeBits = (w block : ℕ) (xs : List ℤ) → bits_of (rice_bytes w block xs) ≡ rice_code w block xs

-- and there are some
abbrev pub HasCodeBytes : Type 0
HasCodeBytes = (w block : ℕ) (xs : List ℤ) → IsWidth w → 1 ≤ length (rice_bytes w block xs)
