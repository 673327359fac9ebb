-- Which number the text of a DATASUM card gives (FITS 4.0, section 4.4.2.7).
use Rattle.std.specs.Prelude.{ℕ, ◌≡◌, ◌^◌, ◌<◌, ◌&&◌, nat_lt, if◌then◌else◌, Option, Some, None, List, ◌++◌, length}
use Rattle.std.specs.Option.{option_and_then}
use Rattle.std.specs.Str.{all_ascii_digits}
use Rattle.std.specs.Str.Parse.{IsNumeral, digits_value}
use Rattle.fz_card.specs.Layout.{blanks}
use Rattle.fz_card.specs.Plain.{skip_blanks}
use Rattle.fz_card.specs.Value.{TextValue}
use Rattle.fz_card.specs.Reading.{text_of}

-- the text gives this sum: after any blanks at its front it is one or more digits, which write a number of 32 bits; zeros may be at their front
pub record GivesSum (text : List ℕ) (sum : ℕ) : Type 0 where
  pub before : ℕ
  pub digits : List ℕ
  pub parts : text ≡ blanks before ++ digits
  pub numeral : IsNumeral 10 digits
  pub value : sum ≡ digits_value 10 digits
  pub fits : sum < 2 ^ 32

-- the text of the card gives this sum
pub record CardGivesSum (card : List ℕ) (sum : ℕ) : Type 0 where
  pub text : List ℕ
  pub has : TextValue card text
  pub gives : GivesSum text sum

-- the number that digits write, if there are digits and they write one of 32 bits
abbrev pub sum_of_digits : List ℕ → Option ℕ
sum_of_digits digits =
    if all_ascii_digits digits && (nat_lt 0 (length digits) && nat_lt (digits_value 10 digits) (2 ^ 32)) then Some (digits_value 10 digits) else None

-- the sum that a text gives, if it gives one
unfoldable pub sum_of_text : List ℕ → Option ℕ
sum_of_text text = sum_of_digits (skip_blanks text)

-- the sum that the text of a card gives, if it gives one
unfoldable pub sum_of_card : List ℕ → Option ℕ
sum_of_card card = option_and_then sum_of_text (text_of card)
