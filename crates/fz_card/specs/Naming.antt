-- The tables of names as functions, for definitions that compute with names. Laws say that they give the names of the tables.
use Rattle.std.specs.Prelude.{ℕ, ◌&&◌, ◌||◌, nat_lt, nat_le, if◌then◌else◌, Bool, false, Option}
use Rattle.std.specs.Prelude.{Some, None, List, [], ◌∷◌, length, drop, map, bytes_eq, is_some}
use Rattle.std.specs.Option.{option_or, option_and_then}
use Rattle.std.specs.Str.{all_ascii_digits}
use Rattle.std.specs.Str.Parse.{digits_value}
use Rattle.fz_card.specs.Layout.{padded}
use Rattle.fz_card.specs.Plain.{cut_blanks}
use Rattle.fz_card.specs.Made.{numbered_name}
use Rattle.fz_card.specs.Tables.{Names, Renaming, renamings, packed_names, own_names, foreign_names}
use Rattle.fz_card.specs.Tables.Names.{Word, Numbered}
use Rattle.fz_card.specs.Tables.Renaming.{Words, Stems}

-- the number whose digits are after the stem, if it is above 0 and makes the name
unfoldable pub number_behind : List ℕ → List ℕ → Option ℕ
number_behind stem name =
    let digits = cut_blanks (drop (length stem) name) in
    let number = digits_value 10 digits in
    if all_ascii_digits digits && (nat_lt 0 number && bytes_eq name (numbered_name stem number)) then Some number else None

-- the option's number, if it is not above the last one
abbrev pub up_to : ℕ → Option ℕ → Option ℕ
up_to last None = None
up_to last (Some number) = if nat_le number last then Some number else None

-- whether the name is the word, or is the stem and one of the numbers
abbrev pub is_in : Names → List ℕ → Bool
is_in (Word word) name = bytes_eq name (padded word)
is_in (Numbered stem last) name = is_some (up_to last (number_behind stem name))

-- whether the name is in some line of the list
abbrev pub is_in_some : List Names → List ℕ → Bool
is_in_some [] name = false
is_in_some (line ∷ lines) name = is_in line name || is_in_some lines name

-- the name that the line gives for this one, if it does
abbrev pub renamed_by : Renaming → List ℕ → Option (List ℕ)
renamed_by (Words plain packed) name = if bytes_eq name (padded plain) then Some (padded packed) else None
renamed_by (Stems plain packed last) name = option_and_then (λ number. Some (numbered_name packed number)) (up_to last (number_behind plain name))

-- the name that the first line which does gives for this one
abbrev pub some_renamed : List Renaming → List ℕ → Option (List ℕ)
some_renamed [] name = None
some_renamed (line ∷ lines) name = option_or (renamed_by line name) (some_renamed lines name)

-- the line read from right to left
abbrev pub reversed : Renaming → Renaming
reversed (Words plain packed) = Words packed plain
reversed (Stems plain packed last) = Stems packed plain last

-- the name in a packed header of a name of an image, if it has another there
unfoldable pub packed_name : List ℕ → Option (List ℕ)
packed_name name = some_renamed renamings name

-- the name in an image of a name of a packed header, if it has another there
unfoldable pub plain_name : List ℕ → Option (List ℕ)
plain_name name = some_renamed (map reversed renamings) name

-- whether the name is in a packed header only for the table
unfoldable pub is_dropped : List ℕ → Bool
is_dropped name = is_in_some own_names name || is_in_some packed_names name

-- whether the name would be taken for one of a packed header
unfoldable pub is_reserved : List ℕ → Bool
is_reserved name = is_some (plain_name name) || (is_in_some packed_names name || is_in_some foreign_names name)
