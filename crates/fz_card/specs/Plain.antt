-- The text of a value without quotes, found from the left.
use Rattle.std.specs.Prelude.{◌≡◌, ℕ, ◌==◌, ◌&&◌, if◌then◌else◌, List, [], ◌∷◌, length, Option, MatchOption, ℤ, FitsSigned, ◌<◌, ◌^◌}
use Rattle.std.specs.Int.{w64}
use Rattle.std.specs.Str.{byte}
use Rattle.std.specs.Str.Parse.{IsNumeral, digits_value, signed_digits_value, without_leading_plus, without_leading_sign}
use Rattle.std.specs.Borrow.{Bor}
use Rattle.fz_card.specs.Layout.{HasValueIndicator, value_field}

-- what is before the first `/`
abbrev pub before_comment : List ℕ → List ℕ
before_comment [] = []
before_comment (b ∷ bs) = if b == byte "/" then [] else b ∷ before_comment bs

-- the text without the blanks at its front
abbrev pub skip_blanks : List ℕ → List ℕ
skip_blanks [] = []
skip_blanks (b ∷ bs) = if b == byte " " then skip_blanks bs else b ∷ bs

-- the text without the blanks at its end
abbrev pub cut_blanks : List ℕ → List ℕ
cut_blanks [] = []
cut_blanks (b ∷ bs) = if b == byte " " && (length (cut_blanks bs) == 0) then [] else b ∷ cut_blanks bs

-- what is in the field before a comment, without the blanks around it
abbrev pub plain_text : List ℕ → List ℕ
plain_text field = cut_blanks (skip_blanks (before_comment field))

-- the value field of the card, or nothing if the card has no value
abbrev pub ReadsField : List ℕ → Option (Bor (List ℕ)) → Type 0
ReadsField card read = MatchOption read (¬ (HasValueIndicator card))
    (λ field. HasValueIndicator card × (field.now ≡ value_field card))

-- the text of the card's value, or nothing if the card has no value
abbrev pub ReadsPlainText : List ℕ → Option (Bor (List ℕ)) → Type 0
ReadsPlainText card read = MatchOption read (¬ (HasValueIndicator card))
    (λ text. HasValueIndicator card × (text.now ≡ plain_text (value_field card)))

-- the text is a sign and digits that write a number of 64 bits, which was read; else nothing was
abbrev pub ReadsSigned : List ℕ → Option ℤ → Type 0
ReadsSigned text read = MatchOption read (¬ (IsNumeral 10 (without_leading_sign text) × FitsSigned w64 (signed_digits_value 10 text)))
    (λ v. IsNumeral 10 (without_leading_sign text) × (v ≡ signed_digits_value 10 text))

-- the text is digits, maybe after a `+`, that write a number of 32 bits, which was read; else nothing was
abbrev pub ReadsNumeral : List ℕ → Option ℕ → Type 0
ReadsNumeral text read = MatchOption read (¬ (IsNumeral 10 (without_leading_plus text) × (digits_value 10 (without_leading_plus text) < 2 ^ 32)))
    (λ n. IsNumeral 10 (without_leading_plus text) × (n ≡ digits_value 10 (without_leading_plus text)) × (n < 2 ^ 32))
