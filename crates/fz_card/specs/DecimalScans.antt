-- The decimal that a text writes, found from the left.
use Rattle.std.specs.Prelude.{ℕ, ◌==◌, ◌||◌, nat_le, if◌then◌else◌, ℤ, pos, negsuc, Bool, Option, Some, None, List, [], ◌∷◌, ◌++◌, length}
use Rattle.std.specs.Option.{option_map, option_and_then}
use Rattle.std.specs.Str.{byte, all_ascii_digits}
use Rattle.std.specs.Str.Parse.{without_leading_sign}
use Rattle.fz_card.specs.Reading.{integer_in}
use Rattle.fz_card.specs.Zeros.{skip_point}
use Rattle.fz_card.specs.declared.decimal.Decimal.{Decimal}
use Rattle.fz_card.specs.Decimals.{scaled}

-- what is before the first byte that passes the test
abbrev pub before : (ℕ → Bool) → List ℕ → List ℕ
before test [] = []
before test (b ∷ bs) = if test b then [] else b ∷ before test bs

-- that byte and what is after it
abbrev pub behind : (ℕ → Bool) → List ℕ → List ℕ
behind test [] = []
behind test (b ∷ bs) = if test b then b ∷ bs else behind test bs

-- whether the byte is the letter of an exponent
abbrev pub is_letter : ℕ → Bool
is_letter b = b == byte "E" || b == byte "D"

-- whether the byte is a point
abbrev pub is_point : ℕ → Bool
is_point b = b == byte "."

-- whether an integer is from -9 to 9
abbrev pub is_small : ℤ → Bool
is_small (pos n) = nat_le n 9
is_small (negsuc n) = nat_le n 8

-- the integer, if there is one and it is from -9 to 9
abbrev pub if_small : Option ℤ → Option ℤ
if_small None = None
if_small (Some e) = if is_small e then Some e else None

-- the integer of at most three digits that a text writes, if it is from -9 to 9
abbrev pub small_integer_in : List ℕ → Option ℤ
small_integer_in text = if nat_le (length (without_leading_sign text)) 3 then if_small (integer_in text) else None

-- the exponent that a text writes, if it is one; 0 for no text
abbrev pub exponent_in : List ℕ → Option ℤ
exponent_in [] = Some (pos 0)
exponent_in (b ∷ bs) = if is_letter b then small_integer_in bs else None

-- the integer that both parts write together, if the second is only digits
abbrev pub joined_integer : List ℕ → List ℕ → Option ℤ
joined_integer front fraction = if all_ascii_digits fraction then integer_in (front ++ fraction) else None

-- the decimal of its parts
abbrev pub joined_decimal : List ℕ → List ℕ → List ℕ → Option Decimal
joined_decimal front fraction exponent =
    option_and_then (λ m. option_map (λ e. scaled m (length fraction) e) (exponent_in exponent)) (joined_integer front fraction)

-- the decimal that a text writes, if it writes one
unfoldable pub decimal_in : List ℕ → Option Decimal
decimal_in text =
    let mantissa = before is_letter text in
    joined_decimal (before is_point mantissa) (skip_point (behind is_point mantissa)) (behind is_letter text)
