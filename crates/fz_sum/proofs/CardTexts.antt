-- The texts of the cards of sums: letters and digits alone.
use Rattle.std.proofs.Common.{◌≡◌, ℕ, ◌-◌, ◌/◌, ◌%◌, ◌^◌, ◌<◌, ◌≢◌, Bool, true, eqb, List, [], ◌∷◌, length, refl, arith}
use Rattle.std.specs.Prelude.{IsTrue, not, ◌&&◌, decimal, slice_index}
use Rattle.std.specs.Char.{is_ascii_alphanumeric}
use Rattle.std.specs.Int.{IsInRange}
use Rattle.std.specs.List.{list_all}
use Rattle.std.proofs.lemmas.Bool.Decides.{nat_tests}
use Rattle.std.proofs.lemmas.Fmt.{decimal_is_IsNumeral, decimal_nonempty, length-decimal-le}
use Rattle.std.proofs.lemmas.Str.Parse.{digit_at}
use Rattle.fz_card.specs.Laws.{MadeCardLaws}
use Rattle.fz_card.specs.Made.{is_unquoted, IsCardText}
use Rattle.fz_card.specs.Value.{IsTrimmed}
use Rattle.fz_sum.specs.Characters.{byte_characters, characters}
use Rattle.fz_sum.proofs.ByteCharacters.{and-true, fine}

-- a letter or a digit
record IsLetter (x : ℕ) : Type 0 where
  is : is_ascii_alphanumeric x ≡ true

record AreLetters (xs : List ℕ) : Type 0 where
  are : list_all is_ascii_alphanumeric xs ≡ true

letters-cons : (x : ℕ) (xs : List ℕ) → IsLetter x → AreLetters xs → AreLetters (x ∷ xs)
letters-cons x xs letter letters = record { are = both (is_ascii_alphanumeric x) (list_all is_ascii_alphanumeric xs) letter.is letters.are }
  where
    both : (a b : Bool) → a ≡ true → b ≡ true → (a && b) ≡ true
    both a b e f = rw (e, f) refl

-- the four characters of a byte
record FourLetters (codes : List ℕ) : Type 0 where
  first : IsLetter (slice_index codes 0)
  second : IsLetter (slice_index codes 1)
  third : IsLetter (slice_index codes 2)
  last : IsLetter (slice_index codes 3)

four-letters : (a b c d : ℕ) → list_all is_ascii_alphanumeric (a ∷ b ∷ c ∷ d ∷ []) ≡ true → FourLetters (a ∷ b ∷ c ∷ d ∷ [])
four-letters a b c d e =
    let one = and-true (is_ascii_alphanumeric a) (list_all is_ascii_alphanumeric (b ∷ c ∷ d ∷ [])) e in
    let two = and-true (is_ascii_alphanumeric b) (list_all is_ascii_alphanumeric (c ∷ d ∷ [])) one.1 in
    let three = and-true (is_ascii_alphanumeric c) (list_all is_ascii_alphanumeric (d ∷ [])) two.1 in
    let four = and-true (is_ascii_alphanumeric d) true three.1 in
    record { first = record { is = one.0 }; second = record { is = two.0 }; third = record { is = three.0 }; last = record { is = four.0 } }

letters-of : (n : ℕ) → FourLetters (byte_characters (n % 256))
unfolding byte_characters
letters-of n =
    let small : n % 256 < 256 = omega arith in
    four-letters _ _ _ _ (fine (n % 256) small).letters

sixteen-letters : (sum : ℕ) → AreLetters (characters sum)
unfolding characters
sixteen-letters sum =
    let rest = 2 ^ 32 - 1 - sum in
    let a = letters-of (rest / 16777216) in
    let b = letters-of (rest / 65536) in
    let c = letters-of (rest / 256) in
    let d = letters-of rest in
    letters-cons _ _ d.last (letters-cons _ _ a.first (letters-cons _ _ b.first (letters-cons _ _ c.first (letters-cons _ _ d.first (letters-cons _ _ a.second (letters-cons _ _ b.second (letters-cons _ _ c.second (letters-cons _ _ d.second (letters-cons _ _ a.third (letters-cons _ _ b.third (letters-cons _ _ c.third (letters-cons _ _ d.third (letters-cons _ _ a.last (letters-cons _ _ b.last (letters-cons _ _ c.last (record { are = refl }))))))))))))))))

-- all sixteen are letters or digits
pub characters-letters : (sum : ℕ) → list_all is_ascii_alphanumeric (characters sum) ≡ true
characters-letters sum = (sixteen-letters sum).are

letter-unquoted : (x : ℕ) → is_ascii_alphanumeric x ≡ true → not (eqb x 39) ≡ true
letter-unquoted x letter = grind (arith, nat_tests)

letter-mark : (x : ℕ) → is_ascii_alphanumeric x ≡ true → x ≢ 32
letter-mark x letter = grind (arith, nat_tests)

letters-unquoted : (xs : List ℕ) → list_all is_ascii_alphanumeric xs ≡ true → IsTrue (is_unquoted xs)
letters-unquoted [] e = refl
letters-unquoted (x ∷ xs) e =
    let parts = and-true (is_ascii_alphanumeric x) (list_all is_ascii_alphanumeric xs) e in
    rw (letter-unquoted x parts.0) (letters-unquoted xs parts.1)

characters-trimmed : (sum : ℕ) → IsTrimmed (characters sum)
unfolding characters
characters-trimmed sum = letter-mark _ (letters-of ((2 ^ 32 - 1 - sum) / 256)).last.is

pub length-characters : (sum : ℕ) → length (characters sum) ≡ 16
unfolding characters
length-characters sum = refl

-- a card can hold them
pub characters-card_text : (sum : ℕ) → IsCardText (characters sum)
characters-card_text sum = record {
  fits = omega (arith, length-characters sum);
  unquoted = letters-unquoted (characters sum) (characters-letters sum);
  trimmed = characters-trimmed sum;
}

digit-mark : (x : ℕ) → IsInRange 48 57 x → x ≢ 32
digit-mark x range = grind arith

-- a card can hold the digits of a sum
pub decimal-card_text : MadeCardLaws → (sum : ℕ) → sum < 2 ^ 32 → IsCardText (decimal sum)
decimal-card_text made sum small =
    let some = decimal_nonempty sum (omega arith) in
    let short = length-decimal-le 10 sum (omega arith) (omega arith) (omega arith) in
    record {
      fits = omega (arith, short);
      unquoted = made.number_unquoted sum (omega arith);
      trimmed = digit-mark _ (digit_at (decimal sum) (length (decimal sum) - 1) (decimal_is_IsNumeral sum (omega arith)).0.1 (omega (arith, some)));
    }
