-- Bytes that are added to a sum in pieces: each piece has a position, and each byte counts by its own position in a word (FITS 4.0, appendix J).
use Rattle.std.specs.Prelude.{ℕ, ◌+◌, ◌-◌, ◌*◌, ◌%◌, ◌^◌, List, [], ◌∷◌, length}

-- what a byte at this position is multiplied by: the bytes of a word are at four positions, the most significant first
abbrev pub weight : ℕ → ℕ
weight at = 256 ^ (3 - at % 4)

-- the total of bytes, the first of which is at this position
unfoldable pub total_at : ℕ → List ℕ → ℕ
total_at at [] = 0
total_at at (b ∷ bs) = weight at * b + total_at (at + 1) bs

-- what a sum was given: the total of all bytes, and how many they were
pub record Added : Type 0 where
  pub total : ℕ
  pub count : ℕ

-- nothing was added
abbrev pub nothing : Added
nothing = record { total = 0; count = 0 }

-- after a piece more: the position of its first byte, and its bytes
abbrev pub after : Added → ℕ → List ℕ → Added
after added at bytes = record { total = added.total + total_at at bytes; count = added.count + length bytes }

-- the position of the first byte, and the bytes
abbrev pub Piece : Type 0
Piece = ℕ × List ℕ

-- after all these pieces, one after another
unfoldable pub after_all : Added → List Piece → Added
after_all added [] = added
after_all added (piece ∷ pieces) = after_all (after added piece.0 piece.1) pieces

-- the parts of a list as pieces: the first part is at this position, and each other part where the one before it ends
unfoldable pub placed : ℕ → List (List ℕ) → List Piece
placed at [] = []
placed at (part ∷ parts) = (at, part) ∷ placed (at + length part) parts
