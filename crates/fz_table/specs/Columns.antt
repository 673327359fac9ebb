-- The columns of a binary table, by the cards TFIELDS, TFORMi and TTYPEi, and those of a packed image among them (FITS 4.0,
-- sections 7.3.1, 7.3.2, 7.3.5 and 10.1.3).
use Rattle.std.specs.Prelude.{ℕ, zero, suc, ℤ, pos, negsuc, ◌+◌, ◌==◌, ◌&&◌, nat_le, Bool, false}
use Rattle.std.specs.Prelude.{List, codes, bytes_eq, Option, Some, None, unwrap_or, if◌then◌else◌}
use Rattle.std.specs.Option.{option_and_then}
use Rattle.std.specs.Str.{str_eq_ignore_ascii_case, byte}
use Rattle.fz_card.specs.Layout.{card_name, padded}
use Rattle.fz_card.specs.Made.{numbered_name}
use Rattle.fz_card.specs.Reading.{integer_of, text_of}
use Rattle.fz_block.specs.Cards.{card_at, first_card}
use Rattle.fz_block.specs.Hdus.{size_in}
use Rattle.fz_table.specs.Forms.{is_any, elements_len, form_in}
use Rattle.fz_table.specs.declared.column.Column.{Column}
use Rattle.fz_table.specs.declared.form.Form.{Form}

-- the index of the first card before END with this name, as it is in columns 1 to 8
unfoldable pub first_named : List ℕ → List ℕ → Option ℕ
first_named name header = first_card (λ card. bytes_eq (card_name card) name) header

-- the integer and the text that a card says, if it is there and says one
abbrev pub integer_at : List ℕ → Option ℕ → Option ℤ
integer_at header None = None
integer_at header (Some i) = integer_of (card_at header i)

abbrev pub text_at : List ℕ → Option ℕ → Option (List ℕ)
text_at header None = None
text_at header (Some i) = text_of (card_at header i)

-- whether a number was said, and from the first of these to the last
abbrev pub is_from : ℕ → ℕ → Option ℤ → Bool
is_from low high None = false
is_from low high (Some (pos n)) = nat_le low n && nat_le n high
is_from low high (Some (negsuc n)) = false

-- the number of columns
abbrev pub tfields_card : List ℕ → Option ℕ
tfields_card header = first_named (padded (codes "TFIELDS")) header

abbrev pub field_count : List ℕ → ℕ
field_count header = size_in (integer_at header (tfields_card header))

-- the form of column i, if it can be read
abbrev pub tform_card : List ℕ → ℕ → Option ℕ
tform_card header i = first_named (numbered_name (codes "TFORM") i) header

abbrev pub form_of : List ℕ → ℕ → Option Form
form_of header i = option_and_then form_in (text_at header (tform_card header i))

-- the name of column i, if it has one
abbrev pub ttype_card : List ℕ → ℕ → Option ℕ
ttype_card header i = first_named (numbered_name (codes "TTYPE") i) header

abbrev pub title_of : List ℕ → ℕ → Option (List ℕ)
title_of header i = text_at header (ttype_card header i)

-- whether a column has this name; the case of letters does not count
abbrev pub is_called : List ℕ → Option (List ℕ) → Bool
is_called name None = false
is_called name (Some title) = str_eq_ignore_ascii_case title name

-- the bytes of a column in a row
abbrev pub width_of : Option Form → ℕ
width_of None = 0
width_of (Some form) = form.len

-- the bytes of the first so many columns in a row
unfoldable pub columns_len : List ℕ → ℕ → ℕ
columns_len header zero = 0
columns_len header (suc i) = columns_len header i + width_of (form_of header (suc i))

-- whether the form is one array descriptor of elements of one of these letters
abbrev pub is_element : List ℕ → Option ℕ → Bool
is_element letters None = false
is_element letters (Some element) = is_any letters element

abbrev pub describes : List ℕ → Option Form → Bool
describes letters None = false
describes letters (Some form) = (is_any (codes "PQ") form.letter && form.repeat == 1) && is_element letters form.element

-- the bytes of one element of the array that a descriptor of this form describes
abbrev pub unit_of : Option ℕ → ℕ
unit_of None = 0
unit_of (Some element) = unwrap_or (elements_len element 1) 0

-- a column of array descriptors, by the byte of the row at which it is and its form: those of Q are the wide ones
abbrev pub column_of : ℕ → Option Form → Column
column_of at None = record { at = at; wide = false; unit = 0 }
column_of at (Some form) = record { at = at; wide = form.letter == byte "Q"; unit = unit_of form.element }

-- the column of this name, of which there is at most one, among the first so many
unfoldable pub column_called : List ℕ → List ℕ → ℕ → Option Column
column_called name header zero = None
column_called name header (suc i) =
    if is_called name (title_of header (suc i)) then Some (column_of (columns_len header i) (form_of header (suc i))) else column_called name header i
