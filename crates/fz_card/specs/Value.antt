-- The values of a card, by a split of its value field (FITS 4.0, sections 4.1.2.3 and 4.2).
use Rattle.std.specs.Prelude.{◌≡◌, ℕ, suc, ◌^◌, ◌<◌, ◌≤◌, ◌⊎◌, ℤ, pos, negsuc, neg_ℤ, Bool, List, [], ◌∷◌, ◌++◌}
use Rattle.std.specs.Prelude.{length, codes, ⊤, if◌then◌else◌, ◌==◌, ◌≢◌, ◌+◌, ◌-◌, replicate, slice_index, true, false}
use Rattle.std.specs.Str.{byte}
use Rattle.std.specs.Str.Parse.{IsNumeral, digits_value}
use Rattle.fz_card.specs.Layout.{blanks, HasValueIndicator, value_field}

-- nothing, or a `/` with anything after it
abbrev pub IsComment : List ℕ → Type 0
IsComment [] = ⊤
IsComment (first ∷ rest) = first ≡ byte "/"

-- no byte of the text is a blank or a `/`
abbrev pub IsPlain : List ℕ → Type 0
IsPlain [] = ⊤
IsPlain (b ∷ bs) = (b ≢ byte " ") × (b ≢ byte "/") × IsPlain bs

-- the field is blanks, the text, blanks, and then nothing or a comment
pub record SplitsRound (text field : List ℕ) : Type 0 where
  pub before : ℕ
  pub behind : ℕ
  pub comment : List ℕ
  pub parts : field ≡ blanks before ++ (text ++ (blanks behind ++ comment))
  pub is_comment : IsComment comment

-- the card has a value, and the text of the value is this one
pub record HasValueText (card text : List ℕ) : Type 0 where
  pub indicator : HasValueIndicator card
  pub field : SplitsRound text (value_field card)

-- the sign before a number n makes it v: `-` turns it, `+` and no sign keep it
abbrev pub Signs : List ℕ → ℕ → ℤ → Type 0
Signs sign n v = (((sign ≡ []) ⊎ (sign ≡ codes "+")) × (v ≡ pos n)) ⊎ ((sign ≡ codes "-") × (v ≡ neg_ℤ (pos n)))

-- at most 18 digits
abbrev pub IsShort : ℤ → Type 0
IsShort (pos n) = n < 10 ^ 18
IsShort (negsuc n) = suc n < 10 ^ 18

-- an integer: an optional sign, then 1 to 18 decimal digits
pub record IsIntegerText (text : List ℕ) (v : ℤ) : Type 0 where
  pub sign : List ℕ
  pub digits : List ℕ
  pub parts : text ≡ sign ++ digits
  pub numeral : IsNumeral 10 digits
  pub short : length digits ≤ 18
  pub signs : Signs sign (digits_value 10 digits) v

-- the card has the integer v as its value
pub record IntegerValue (card : List ℕ) (v : ℤ) : Type 0 where
  pub text : List ℕ
  pub has : HasValueText card text
  pub is : IsIntegerText text v

-- a logical value: `T` or `F`
abbrev pub logical_text : Bool → List ℕ
logical_text b = if b then codes "T" else codes "F"

-- the card has the logical value b
abbrev pub LogicalValue : List ℕ → Bool → Type 0
LogicalValue card b = HasValueText card (logical_text b)

-- characters as they are between quotes: each quote is written twice
abbrev pub doubled : List ℕ → List ℕ
doubled [] = []
doubled (b ∷ bs) = if b == byte "'" then b ∷ b ∷ doubled bs else b ∷ doubled bs

-- the last byte is no blank; the empty text has none
abbrev pub IsTrimmed : List ℕ → Type 0
IsTrimmed text = slice_index text (length text - 1) ≢ byte " "

-- characters between quotes, of which blanks at the end do not count
pub record IsQuoted (text characters : List ℕ) : Type 0 where
  pub trailing : ℕ
  pub parts : text ≡ codes "'" ++ (doubled (characters ++ blanks trailing) ++ codes "'")
  pub trimmed : IsTrimmed characters

-- the card has these characters as its text value
pub record TextValue (card characters : List ℕ) : Type 0 where
  pub text : List ℕ
  pub has : HasValueText card text
  pub is : IsQuoted text characters

-- an optional sign: nothing, `+` or `-`
abbrev pub IsSign : List ℕ → Type 0
IsSign sign = (sign ≡ []) ⊎ ((sign ≡ codes "+") ⊎ (sign ≡ codes "-"))

-- an exponent: `E` or `D`, an optional sign and digits
pub record IsExponent (text : List ℕ) : Type 0 where
  pub letter : List ℕ
  pub sign : List ℕ
  pub digits : List ℕ
  pub parts : text ≡ letter ++ (sign ++ digits)
  pub is_letter : (letter ≡ codes "E") ⊎ (letter ≡ codes "D")
  pub is_sign : IsSign sign
  pub numeral : IsNumeral 10 digits

-- a number that is zero: an optional sign, zeros with at most one point among or beside them, an optional exponent
pub record IsZeroText (text : List ℕ) : Type 0 where
  pub sign : List ℕ
  pub whole : ℕ
  pub point : List ℕ
  pub fraction : ℕ
  pub exponent : List ℕ
  pub parts : text ≡ sign ++ (replicate whole (byte "0") ++ (point ++ (replicate fraction (byte "0") ++ exponent)))
  pub is_sign : IsSign sign
  pub is_point : (point ≡ []) ⊎ (point ≡ codes ".")
  pub some : 0 < whole + fraction
  pub is_exponent : (exponent ≡ []) ⊎ IsExponent exponent

-- the value of the card is a number that is zero
pub record HasZero (card : List ℕ) : Type 0 where
  pub text : List ℕ
  pub has : HasValueText card text
  pub is : IsZeroText text

-- the card has a value, and something is in the field before a comment
pub record HasValue (card : List ℕ) : Type 0 where
  pub indicator : HasValueIndicator card
  pub not_blank : ¬ (SplitsRound [] (value_field card))

-- whether the value of the card is zero
abbrev pub ZeroValue : List ℕ → Bool → Type 0
ZeroValue card true = HasZero card
ZeroValue card false = HasValue card × ¬ (HasZero card)
