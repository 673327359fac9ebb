-- A table of the characters of each byte, which is tested as a whole.
use Rattle.std.proofs.Common.{◌≡◌, ℕ, zero, suc, ◌+◌, ◌<◌, Bool, true, false, List, [], ◌∷◌, length, get_or, refl, ap, ◌∙◌, arith}
use Rattle.std.specs.Prelude.{◌&&◌, bytes_eq}
use Rattle.std.proofs.lemmas.Slice.Eq.{bytes_eq-Decides}
use Rattle.fz_sum.specs.Characters.{byte_characters}

-- the rows are the characters of this byte and of those after it
abbrev pub are_rows : ℕ → List (List ℕ) → Bool
are_rows byte [] = true
are_rows byte (row ∷ rows) = bytes_eq row (byte_characters byte) && are_rows (byte + 1) rows

and-true : (a b : Bool) → (a && b) ≡ true → (a ≡ true) × (b ≡ true)
and-true true true e = (refl, refl)
and-true true false e = cc
and-true false b e = cc

pub row-is : (rows : List (List ℕ)) (byte i : ℕ) (d : List ℕ) → are_rows byte rows ≡ true → i < length rows → get_or rows i d ≡ byte_characters (byte + i)
row-is [] byte i d right within = absurd (omega arith)
row-is (row ∷ rows) byte zero d right within =
    let e : byte + 0 ≡ byte = omega arith in
    rw e ((bytes_eq-Decides row (byte_characters byte)).0 (and-true (bytes_eq row (byte_characters byte)) (are_rows (byte + 1) rows) right).0)
row-is (row ∷ rows) byte (suc i) d right within =
    let e : byte + 1 + i ≡ byte + suc i = omega arith in
    row-is rows (byte + 1) i d (and-true (bytes_eq row (byte_characters byte)) (are_rows (byte + 1) rows) right).1 (omega arith) ∙ ap byte_characters e

-- the row of a byte, in a table of all
pub row-of : (rows : List (List ℕ)) (byte : ℕ) (d : List ℕ) → byte < 256 → length rows ≡ 256 → are_rows 0 rows ≡ true → get_or rows byte d ≡ byte_characters byte
row-of rows byte d small all right =
    row-is rows 0 byte d right (omega arith) ∙ (let e : 0 + byte ≡ byte = omega arith in ap byte_characters e)
