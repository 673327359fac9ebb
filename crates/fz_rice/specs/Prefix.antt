-- How bits relate to the codes of so many numbers.
use Rattle.std.specs.Prelude.{◌≡◌, ◌≢◌, ℕ, ◌+◌, ◌/◌, Bool, ℤ, List, [], ◌++◌, length}
use Rattle.fz_rice.specs.Code.{IsRiceCode}

-- the bits begin with a code of the numbers, which takes so many bytes
pub record BeginsWith (w block : ℕ) (xs : List ℤ) (bytes : ℕ) (bits : List Bool) : Type 0 where
  pub code : List Bool
  pub rest : List Bool
  pub is_code : IsRiceCode w block xs code
  pub is : bits ≡ code ++ rest
  pub len : bytes ≡ (length code + 7) / 8

-- the bits begin with a code of n numbers
abbrev pub BeginsWithCode : ℕ → ℕ → ℕ → List Bool → Type 0
BeginsWithCode w block n bits = (xs : List ℤ) × (bytes : ℕ) × (length xs ≡ n) × BeginsWith w block xs bytes bits

-- the bits are a proper prefix of a code of n numbers
abbrev pub IsBeginning : ℕ → ℕ → ℕ → List Bool → Type 0
IsBeginning w block n bits = (xs : List ℤ) × (rest : List Bool) × (length xs ≡ n) × (rest ≢ []) × IsRiceCode w block xs (bits ++ rest)
