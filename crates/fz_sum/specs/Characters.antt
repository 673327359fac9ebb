-- The sixteen characters that stand for a sum (FITS 4.0, appendix J).
use Rattle.std.specs.Prelude.{ℕ, ◌≡◌, ◌⊎◌, ◌+◌, ◌-◌, ◌/◌, ◌%◌, ◌^◌, ◌<◌, ◌≤◌, ◌&&◌, ◌||◌, zero, suc, nat_le}
use Rattle.std.specs.Prelude.{if◌then◌else◌, Bool, List, [], ◌∷◌, ◌++◌, map, take, drop, slice_index}
use Rattle.std.specs.Int.{w32, to_be_bytes}

-- the punctuation of ASCII between digits, capitals and small letters
abbrev pub IsPunctuation : ℕ → Type 0
IsPunctuation c = ((58 ≤ c) × (c ≤ 64)) ⊎ ((91 ≤ c) × (c ≤ 96))

-- a pair of characters without punctuation that has the total of this pair: the first is raised and the second lowered by the least number that does
pub record IsEvened (first second x y : ℕ) : Type 0 where
  pub shift : ℕ
  pub raised : x ≡ first + shift
  pub lowered : y + shift ≡ second
  pub x_is : ¬ (IsPunctuation x)
  pub y_is : ¬ (IsPunctuation y)
  pub least : (less : ℕ) → less < shift → IsPunctuation (first + less) ⊎ IsPunctuation (second - less)

-- what each of a byte's four characters begins with: a quarter of the byte, from the character `0` on
abbrev pub quarter : ℕ → ℕ
quarter byte = byte / 4 + 48

-- the four characters of a byte: four quarters, of which the first has the rest too, evened in two pairs
pub record AreByteCharacters (byte : ℕ) (characters : List ℕ) : Type 0 where
  pub a : ℕ
  pub b : ℕ
  pub c : ℕ
  pub d : ℕ
  pub are : characters ≡ a ∷ b ∷ c ∷ d ∷ []
  pub front : IsEvened (quarter byte + byte % 4) (quarter byte) a b
  pub back : IsEvened (quarter byte) (quarter byte) c d

-- the same as functions: whether a character is punctuation
abbrev pub is_punctuation : ℕ → Bool
is_punctuation c = (nat_le 58 c && nat_le c 64) || (nat_le 91 c && nat_le c 96)

-- the least number from this one on that evens the pair, if it is one of the next few
abbrev pub shift_from : ℕ → ℕ → ℕ → ℕ → ℕ
shift_from zero shift first second = shift
shift_from (suc few) shift first second =
    if is_punctuation (first + shift) || is_punctuation (second - shift) then shift_from few (shift + 1) first second else shift

-- the pair evened; no shift is above 7
abbrev pub evened : ℕ → ℕ → List ℕ
evened first second = let shift = shift_from 8 0 first second in (first + shift) ∷ (second - shift) ∷ []

-- the four characters of a byte
unfoldable pub byte_characters : ℕ → List ℕ
byte_characters byte = evened (quarter byte + byte % 4) (quarter byte) ++ evened (quarter byte) (quarter byte)

-- character j of each byte
abbrev pub column : List (List ℕ) → ℕ → List ℕ
column codes j = map (λ (code : List ℕ). slice_index code j) codes

-- the last of sixteen comes first
abbrev pub rotated : List ℕ → List ℕ
rotated text = drop 15 text ++ take 15 text

-- the sixteen characters of a sum: those of the four bytes of its complement, the first of each byte, then the second of each, and so on, rotated
unfoldable pub characters : ℕ → List ℕ
characters sum =
    let codes = map byte_characters (to_be_bytes w32 (2 ^ 32 - 1 - sum)) in
    rotated (column codes 0 ++ (column codes 1 ++ (column codes 2 ++ column codes 3)))
