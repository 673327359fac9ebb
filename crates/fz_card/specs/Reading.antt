-- The value of a card as a function, for definitions that compute with it. Laws say that it is the value by the split of the field.
use Rattle.std.specs.Prelude.{ℕ, ◌&&◌, nat_lt, nat_le, if◌then◌else◌, ℤ, Bool, true, false, Option, Some, None, List, length, take, drop, codes, bytes_eq}
use Rattle.std.specs.Str.{all_ascii_digits}
use Rattle.std.specs.Str.Parse.{without_leading_sign, signed_digits_value}
use Rattle.fz_card.specs.Layout.{value_field}
use Rattle.fz_card.specs.Plain.{plain_text}
use Rattle.fz_card.specs.Quoted.{text_in}
use Rattle.fz_card.specs.Zeros.{zero_in}

-- whether columns 9 and 10 say that the card has a value
abbrev pub has_value_indicator : List ℕ → Bool
has_value_indicator card = bytes_eq (take 2 (drop 8 card)) (codes "= ")

-- whether the text is 1 to 18 decimal digits
abbrev pub is_short_numeral : List ℕ → Bool
is_short_numeral digits = all_ascii_digits digits && (nat_lt 0 (length digits) && nat_le (length digits) 18)

-- the integer that a text writes, if it does
abbrev pub integer_in : List ℕ → Option ℤ
integer_in text = if is_short_numeral (without_leading_sign text) then Some (signed_digits_value 10 text) else None

-- the logical value that a text writes, if it does
abbrev pub logical_in : List ℕ → Option Bool
logical_in text = if bytes_eq text (codes "T") then Some true else (if bytes_eq text (codes "F") then Some false else None)

-- the integer value of a card, if it has one
unfoldable pub integer_of : List ℕ → Option ℤ
integer_of card = if has_value_indicator card then integer_in (plain_text (value_field card)) else None

-- the logical value of a card, if it has one
unfoldable pub logical_of : List ℕ → Option Bool
logical_of card = if has_value_indicator card then logical_in (plain_text (value_field card)) else None

-- the characters of the text value of a card, if it has one
unfoldable pub text_of : List ℕ → Option (List ℕ)
text_of card = if has_value_indicator card then text_in (value_field card) else None

-- whether the option is this text
abbrev pub is_text : List ℕ → Option (List ℕ) → Bool
is_text text None = false
is_text text (Some found) = bytes_eq found text

-- whether the value of a card is this text
abbrev pub has_text : List ℕ → List ℕ → Bool
has_text text card = is_text text (text_of card)

-- whether the value of a card is zero, if it has a value that is not blank
unfoldable pub zero_of : List ℕ → Option Bool
zero_of card = if has_value_indicator card then zero_in (plain_text (value_field card)) else None
