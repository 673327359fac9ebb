-- Names that occur once in a header (FITS 4.0, section 4.4).
use Rattle.std.specs.Prelude.{ℕ, Bool, ◌&&◌, List, [], ◌∷◌, ◌++◌, length, take, bytes_eq, Option, codes, slice_index_or, if◌then◌else◌}
use Rattle.std.specs.List.{list_any, position, range_with_len}
use Rattle.fz_card.specs.Layout.{card_name, padded}
use Rattle.fz_card.specs.Naming.{is_in_some}
use Rattle.fz_card.specs.Tables.{Names}
use Rattle.fz_card.specs.Tables.Names.{Word, Numbered}

-- the card of this index has a name that occurs once, and a card before it has the name too
abbrev pub repeats : List Names → (List ℕ → List ℕ) → List (List ℕ) → ℕ → Bool
repeats once as_name cards i =
    let name = card_name (slice_index_or cards i []) in
    is_in_some once name && list_any (λ earlier. bytes_eq (as_name (card_name earlier)) (as_name name)) (take i cards)

-- the index of the first card that repeats the name of an earlier one
abbrev pub first_repeat : List Names → (List ℕ → List ℕ) → List (List ℕ) → Option ℕ
first_repeat once as_name cards = position (repeats once as_name cards) (range_with_len 0 (length cards))

-- the names that occur once in the header of an image
abbrev pub image_names : List Names
image_names =
    Word (codes "SIMPLE") ∷ Word (codes "XTENSION") ∷ Word (codes "BITPIX") ∷ Word (codes "NAXIS") ∷ Numbered (codes "NAXIS") 999
    ∷ Word (codes "PCOUNT") ∷ Word (codes "GCOUNT") ∷ []

-- the names that occur once in the header of a table
abbrev pub array_names : List Names
array_names =
    Word (codes "XTENSION") ∷ Word (codes "BITPIX") ∷ Word (codes "NAXIS") ∷ Numbered (codes "NAXIS") 999
    ∷ Word (codes "PCOUNT") ∷ Word (codes "GCOUNT") ∷ Word (codes "TFIELDS") ∷ Numbered (codes "TTYPE") 999
    ∷ Numbered (codes "TFORM") 999 ∷ Word (codes "THEAP") ∷ []

-- the names that say something of the packed image, and occur once
abbrev pub compression_names : List Names
compression_names =
    Word (codes "ZIMAGE") ∷ Word (codes "ZCMPTYPE") ∷ Word (codes "ZBITPIX") ∷ Word (codes "ZNAXIS")
    ∷ Numbered (codes "ZNAXIS") 99 ∷ Numbered (codes "ZTILE") 999 ∷ Numbered (codes "ZNAME") 999
    ∷ Numbered (codes "ZVAL") 999 ∷ Word (codes "ZSIMPLE") ∷ Word (codes "ZTENSION") ∷ Word (codes "ZPCOUNT")
    ∷ Word (codes "ZGCOUNT") ∷ []

-- the names that occur once in a packed header
abbrev pub table_names : List Names
table_names = array_names ++ compression_names

-- in an image each name is its own
abbrev pub itself : List ℕ → List ℕ
itself name = name

-- in a packed header ZSIMPLE and ZTENSION count as one name
abbrev pub counted_name : List ℕ → List ℕ
counted_name name = if bytes_eq name (padded (codes "ZTENSION")) then padded (codes "ZSIMPLE") else name
