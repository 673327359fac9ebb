-- Arrays of numbers: the lengths of the axes, axis 1 first, and the numbers with axis 1 varying fastest (FITS 4.0, sections 3.3.2 and 4.4.1.1).
use Rattle.std.specs.Prelude.{◌≡◌, ℕ, ◌+◌, ◌*◌, ◌/◌, ◌%◌, ◌<◌, ℤ, pos, List, [], ◌∷◌, length, slice_index, slice_index_or}

-- how many places there are
abbrev pub product : List ℕ → ℕ
product [] = 1
product (n ∷ ns) = n * product ns

-- the lengths of the axes of an array, and its numbers
pub record NumberArray : Type 0 where
  pub lengths : List ℕ
  pub numbers : List ℤ

-- there are as many numbers as places
abbrev pub IsArray : NumberArray → Type 0
IsArray a = length a.numbers ≡ product a.lengths

-- these are coordinates of a place: one for each axis, below its length
pub record AreCoordinatesOf (lengths coordinates : List ℕ) : Type 0 where
  pub axes : length coordinates ≡ length lengths
  pub below : (i : ℕ) → i < length lengths → slice_index coordinates i < slice_index lengths i

-- the number of the place with these coordinates, which are counted from 0
abbrev pub place_of : List ℕ → List ℕ → ℕ
place_of [] coordinates = 0
place_of (n ∷ ns) [] = 0
place_of (n ∷ ns) (c ∷ cs) = c + n * place_of ns cs

-- the coordinates of the place with this number
abbrev pub coordinates_of : List ℕ → ℕ → List ℕ
coordinates_of [] k = []
coordinates_of (n ∷ ns) k = (k % n) ∷ coordinates_of ns (k / n)

-- the number at these coordinates
abbrev pub at : NumberArray → List ℕ → ℤ
at a coordinates = slice_index_or a.numbers (place_of a.lengths coordinates) (pos 0)
