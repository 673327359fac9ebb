-- The text of a value between quotes, found from the left.
use Rattle.std.specs.Prelude.{ℕ, ◌==◌, if◌then◌else◌, Bool, true, false, Option, Some, None, List, [], ◌∷◌, length}
use Rattle.std.specs.Option.{option_map}
use Rattle.std.specs.Str.{byte}
use Rattle.fz_card.specs.Plain.{skip_blanks, cut_blanks, plain_text}

-- characters, and what is after the quote that closes them
abbrev pub Closed : Type 0
Closed = List ℕ × List ℕ

-- a character more at the front
abbrev pub with_first : ℕ → Option Closed → Option Closed
with_first b found = option_map (λ c. (b ∷ c.0, c.1)) found

-- characters up to the quote that closes them, of which each quote is written twice; the test says that a quote is before these
-- bytes, which closes unless a second one follows
abbrev pub read_quoted : Bool → List ℕ → Option Closed
read_quoted false [] = None
read_quoted true [] = Some ([], [])
read_quoted false (b ∷ bs) = if b == byte "'" then read_quoted true bs else with_first b (read_quoted false bs)
read_quoted true (b ∷ bs) = if b == byte "'" then with_first b (read_quoted false bs) else Some ([], b ∷ bs)

-- what is after an opening quote: the characters up to the closing one
unfoldable pub quoted : List ℕ → Option Closed
quoted bytes = read_quoted false bytes

-- no character more: the first byte, if there is one, is the closing quote
abbrev pub at_quote : List ℕ → Option Closed
at_quote [] = None
at_quote (b ∷ bs) = Some ([], bs)

-- whether nothing but blanks is there up to the end or a comment
abbrev pub is_blank : List ℕ → Bool
is_blank bytes = length (plain_text bytes) == 0

-- the characters without the blanks at their end, if nothing but a comment is after the closing quote
abbrev pub closed_text : Option Closed → Option (List ℕ)
closed_text None = None
closed_text (Some found) = if is_blank found.1 then Some (cut_blanks found.0) else None

-- the text of a field that begins with its opening quote
abbrev pub opened_text : List ℕ → Option (List ℕ)
opened_text [] = None
opened_text (b ∷ bs) = if b == byte "'" then closed_text (quoted bs) else None

-- the text that the field writes, if it does
abbrev pub text_in : List ℕ → Option (List ℕ)
text_in field = opened_text (skip_blanks field)
