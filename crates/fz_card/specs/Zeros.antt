-- The text of a number that is zero, found from the left.
use Rattle.std.specs.Prelude.{ℕ, ◌+◌, ◌==◌, ◌&&◌, ◌||◌, nat_lt, if◌then◌else◌, Bool, true, Option, Some, None, List, [], ◌∷◌, length}
use Rattle.std.specs.Str.{byte, all_ascii_digits}
use Rattle.std.specs.Str.Parse.{without_leading_sign}

-- the text without the zeros at its front
abbrev pub skip_zeros : List ℕ → List ℕ
skip_zeros [] = []
skip_zeros (b ∷ bs) = if b == byte "0" then skip_zeros bs else b ∷ bs

-- the text without a point at its front
abbrev pub skip_point : List ℕ → List ℕ
skip_point [] = []
skip_point (b ∷ bs) = if b == byte "." then bs else b ∷ bs

-- whether the text is one or more decimal digits
abbrev pub is_numeral : List ℕ → Bool
is_numeral digits = all_ascii_digits digits && nat_lt 0 (length digits)

-- whether the text is empty, or a letter, an optional sign and digits
abbrev pub is_exponent : List ℕ → Bool
is_exponent [] = true
is_exponent (b ∷ bs) = (b == byte "E" || b == byte "D") && is_numeral (without_leading_sign bs)

-- whether the text without its sign is zeros with at most one point, and an exponent
abbrev pub is_zero_number : List ℕ → Bool
is_zero_number number =
    let whole = skip_zeros number in
    let fraction = skip_point whole in
    let rest = skip_zeros fraction in
    nat_lt (length whole + length rest) (length number + length fraction) && is_exponent rest

-- whether the text is a number that is zero
unfoldable pub is_zero_text : List ℕ → Bool
is_zero_text text = is_zero_number (without_leading_sign text)

-- whether the text is zero, if it is not empty
abbrev pub zero_in : List ℕ → Option Bool
zero_in text = if length text == 0 then None else Some (is_zero_text text)
