-- The forms of the columns of a binary table: a repeat count and a letter (FITS 4.0, sections 7.3.1 and 7.3.5, and table 18).
use Rattle.std.specs.Prelude.{ℕ, ◌+◌, ◌*◌, ◌/◌, ◌==◌, ◌&&◌, not, nat_lt, Bool, List, [], ◌∷◌, length}
use Rattle.std.specs.Prelude.{take, drop, codes, slice_get, Option, Some, None, if◌then◌else◌}
use Rattle.std.specs.List.{list_any, prefix_len}
use Rattle.std.specs.Char.{is_ascii_digit}
use Rattle.std.specs.Str.Parse.{digits_value}
use Rattle.fz_table.specs.declared.form.Form.{Form}

-- whether a byte is one of these letters
abbrev pub is_any : List ℕ → ℕ → Bool
is_any letters b = list_any (λ letter. letter == b) letters

-- the bytes that so many elements of this letter take, if it is the letter of a form; those of X are bits, and P and Q are array descriptors
unfoldable pub elements_len : ℕ → ℕ → Option ℕ
elements_len letter count =
    if is_any (codes "LBA") letter then Some count
    else (if is_any (codes "I") letter then Some (2 * count)
    else (if is_any (codes "JE") letter then Some (4 * count)
    else (if is_any (codes "KDCP") letter then Some (8 * count)
    else (if is_any (codes "MQ") letter then Some (16 * count)
    else (if is_any (codes "X") letter then Some ((count + 7) / 8)
    else None)))))

-- the digits at the front of a text
abbrev pub first_digits : List ℕ → List ℕ
first_digits text = take (prefix_len is_ascii_digit text) text

-- the repeat count that these digits write: 1 if there are none
abbrev pub repeat_in : List ℕ → ℕ
repeat_in digits = if length digits == 0 then 1 else digits_value 10 digits

-- whether a row may have so many of this letter: at most one array descriptor
abbrev pub may_repeat : ℕ → ℕ → Bool
may_repeat letter repeat = not (is_any (codes "PQ") letter && nat_lt 1 repeat)

-- the form whose letter is first in the text, and takes so many bytes
abbrev pub form_of_len : ℕ → ℕ → List ℕ → Option ℕ → Option Form
form_of_len repeat letter behind None = None
form_of_len repeat letter behind (Some len) =
    if may_repeat letter repeat then Some (record { repeat = repeat; letter = letter; len = len; element = slice_get behind 0 }) else None

-- the form with this repeat count whose letter is first in the text
abbrev pub lettered : ℕ → List ℕ → Option Form
lettered repeat [] = None
lettered repeat (letter ∷ behind) = form_of_len repeat letter behind (elements_len letter repeat)

-- the form that a text writes, if it does: up to 9 digits, a letter, and anything
unfoldable pub form_in : List ℕ → Option Form
form_in text =
    let digits = first_digits text in
    if nat_lt 9 (length digits) then None else lettered (repeat_in digits) (drop (length digits) text)
