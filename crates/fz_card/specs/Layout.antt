-- The columns of a card: its name, its value indicator and its value field (FITS 4.0, section 4.1.2).
use Rattle.std.specs.Prelude.{◌≡◌, ℕ, ◌-◌, List, ◌++◌, length, take, drop, replicate, codes}
use Rattle.std.specs.Str.{byte}

-- so many blanks: a blank is only the space
abbrev pub blanks : ℕ → List ℕ
blanks count = replicate count (byte " ")

-- the text with blanks after it, up to the length
abbrev pub filled : ℕ → List ℕ → List ℕ
filled len text = text ++ blanks (len - length text)

-- a name as it is in columns 1 to 8
abbrev pub padded : List ℕ → List ℕ
padded name = filled 8 name

-- columns 1 to 8
abbrev pub card_name : List ℕ → List ℕ
card_name card = take 8 card

-- columns 9 and 10 say that the card has a value
abbrev pub HasValueIndicator : List ℕ → Type 0
HasValueIndicator card = take 2 (drop 8 card) ≡ codes "= "

-- columns 11 to 80, where the value and the comment are
abbrev pub value_field : List ℕ → List ℕ
value_field card = drop 10 card
