-- The bytes of cards and names that are made, without a comment (FITS 4.0, section 4.2).
use Rattle.std.specs.Prelude.{ℕ, ◌-◌, ◌^◌, ◌<◌, ◌≤◌, ℤ, Bool, not, ◌==◌, IsTrue, List, ◌++◌, length, codes, decimal}
use Rattle.std.specs.Fmt.{signed_decimal}
use Rattle.std.specs.List.{list_all}
use Rattle.std.specs.Str.{byte}
use Rattle.fz_card.specs.Layout.{blanks, filled, padded}
use Rattle.fz_card.specs.Value.{logical_text, IsTrimmed}

-- whether no byte of the text is a quote
abbrev pub is_unquoted : List ℕ → Bool
is_unquoted text = list_all (λ b. not (b == byte "'")) text

-- a text that a card can hold: at most 68 bytes, none of them a quote, and no blank at its end
pub record IsCardText (text : List ℕ) : Type 0 where
  pub fits : length text ≤ 68
  pub unquoted : IsTrue (is_unquoted text)
  pub trimmed : IsTrimmed text

-- the text with blanks before it, up to the length
abbrev pub right_aligned : ℕ → List ℕ → List ℕ
right_aligned len text = blanks (len - length text) ++ text

-- the name, `= `, the field, and blanks up to column 80
abbrev pub value_card : List ℕ → List ℕ → List ℕ
value_card name field = filled 80 (name ++ (codes "= " ++ field))

-- a number ends in column 30
unfoldable pub int_card_bytes : List ℕ → ℤ → List ℕ
int_card_bytes name v = value_card name (right_aligned 20 (signed_decimal v))

-- `T` or `F` is in column 30
unfoldable pub logical_card_bytes : List ℕ → Bool → List ℕ
logical_card_bytes name b = value_card name (right_aligned 20 (logical_text b))

-- quotes are round a text of at least 8 characters, the first of them in column 11
unfoldable pub text_card_bytes : List ℕ → List ℕ → List ℕ
text_card_bytes name text = value_card name (codes "'" ++ (filled 8 text ++ codes "'"))

-- the stem and the decimal digits of the number fit into 8 bytes
abbrev pub FitsName : List ℕ → ℕ → Type 0
FitsName stem i = (length stem < 8) × (i < 10 ^ (8 - length stem))

-- the stem and the number's decimal digits, as a name
unfoldable pub numbered_name : List ℕ → ℕ → List ℕ
numbered_name stem i = padded (stem ++ decimal i)
