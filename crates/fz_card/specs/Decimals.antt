-- Decimals as values of cards, and the card of a decimal less a whole number (FITS 4.0, sections 4.2.3, 4.2.4 and 8.1).
use Rattle.std.specs.Prelude.{◌≡◌, ℕ, zero, suc, ◌+◌, ◌-◌, ◌*◌, ◌/◌, ◌%◌, ◌^◌, ◌≤◌, ◌⊎◌, ℤ, pos, negsuc}
use Rattle.std.specs.Prelude.{◌-ℤ◌, ◌*ℤ◌, List, [], ◌∷◌, ◌++◌, length, codes, decimal, unsigned_abs}
use Rattle.std.specs.Str.{byte}
use Rattle.std.specs.Str.Parse.{AllDigits, without_leading_sign}
use Rattle.fz_card.specs.declared.decimal.Decimal.{Decimal}
use Rattle.fz_card.specs.Layout.{card_name}
use Rattle.fz_card.specs.Value.{HasValueText, IsIntegerText}
use Rattle.fz_card.specs.Made.{value_card, right_aligned}

-- from -9 to 9
abbrev pub IsSmall : ℤ → Type 0
IsSmall (pos n) = n ≤ 9
IsSmall (negsuc n) = suc n ≤ 9

-- an exponent: `E` or `D`, then an integer of at most 3 digits, from -9 to 9
pub record IsExponentText (text : List ℕ) (e : ℤ) : Type 0 where
  pub letter : List ℕ
  pub rest : List ℕ
  pub parts : text ≡ letter ++ rest
  pub is_letter : (letter ≡ codes "E") ⊎ (letter ≡ codes "D")
  pub integer : IsIntegerText rest e
  pub few : length (without_leading_sign rest) ≤ 3
  pub small : IsSmall e

-- an exponent, or nothing in place of the exponent 0
abbrev pub IsExponent : List ℕ → ℤ → Type 0
IsExponent text e = ((text ≡ []) × (e ≡ pos 0)) ⊎ IsExponentText text e

-- the decimal of a number that has so many of its digits after the point, and an exponent: as few digits after the point as hold it
abbrev pub scaled : ℤ → ℕ → ℤ → Decimal
scaled m behind (pos e) = record { number = m *ℤ pos (10 ^ (e - behind)); places = behind - e }
scaled m behind (negsuc e) = record { number = m; places = behind + suc e }

-- a decimal: an optional sign, 1 to 18 digits with at most one point before, among or after them, and maybe an exponent
pub record IsDecimalText (text : List ℕ) (d : Decimal) : Type 0 where
  pub front : List ℕ
  pub point : List ℕ
  pub fraction : List ℕ
  pub exponent : List ℕ
  pub m : ℤ
  pub e : ℤ
  pub parts : text ≡ front ++ (point ++ (fraction ++ exponent))
  pub is_point : ((point ≡ []) × (fraction ≡ [])) ⊎ (point ≡ codes ".")
  pub digits : AllDigits 10 fraction
  pub integer : IsIntegerText (front ++ fraction) m
  pub is_exponent : IsExponent exponent e
  pub is : d ≡ scaled m (length fraction) e

-- the value of the card is this decimal
pub record HasDecimal (card : List ℕ) (d : Decimal) : Type 0 where
  pub text : List ℕ
  pub has : HasValueText card text
  pub is : IsDecimalText text d

-- the decimal less a whole number
abbrev pub less : Decimal → ℕ → Decimal
less d by = record { number = d.number -ℤ pos (by * 10 ^ d.places); places = d.places }

-- the last so many digits of a number, with zeros at the front
abbrev pub last_digits : ℕ → ℕ → List ℕ
last_digits zero n = []
last_digits (suc count) n = (byte "0" + n / 10 ^ count % 10) ∷ last_digits count n

-- a point and a digit for each place; nothing if there is none
abbrev pub fraction_text : ℕ → ℕ → List ℕ
fraction_text zero n = []
fraction_text (suc places) n = codes "." ++ last_digits (suc places) n

-- the sign of a number below 0
abbrev pub sign_text : ℤ → List ℕ
sign_text (pos n) = []
sign_text (negsuc n) = codes "-"

-- the text of a decimal: the sign, the whole part with at least one digit and no zeros at its front, and the fraction
abbrev pub decimal_text : Decimal → List ℕ
decimal_text d = sign_text d.number ++ (decimal (unsigned_abs d.number / 10 ^ d.places) ++ fraction_text d.places (unsigned_abs d.number))

-- a card with this decimal less a whole number: the same name, the text at the end of column 30, or from column 11 on if it has
-- more than 20 characters, and no comment
abbrev pub shifted_card : List ℕ → ℕ → Decimal → List ℕ
shifted_card card by d = value_card (card_name card) (right_aligned 20 (decimal_text (less d by)))

-- the other card is this one with its decimal less the whole number
pub record IsShifted (card : List ℕ) (by : ℕ) (other : List ℕ) : Type 0 where
  pub decimal : Decimal
  pub has : HasDecimal card decimal
  pub made : other ≡ shifted_card card by decimal
