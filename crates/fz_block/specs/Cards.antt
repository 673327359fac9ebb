-- The cards of a header: 80 bytes each, 36 in a block, up to the first that is named END (FITS 4.0, sections 3.3.1 and 4.1).
use Rattle.std.specs.Prelude.{ℕ, zero, suc, ◌*◌, ◌/◌, Bool, List, length, take, drop, codes, bytes_eq, Option, Some, None, unwrap_or, if◌then◌else◌}
use Rattle.std.specs.Option.{option_map}
use Rattle.fz_card.specs.Layout.{card_name, padded}
use Rattle.fz_card.specs.Made.{numbered_name}

-- the card of this index
abbrev pub card_at : List ℕ → ℕ → List ℕ
card_at header i = take 80 (drop (80 * i) header)

-- whether the card has this name
abbrev pub is_named : List ℕ → List ℕ → Bool
is_named name card = bytes_eq (card_name card) (padded name)

-- whether the card has this name with a number, as NAXIS1
abbrev pub is_numbered : List ℕ → ℕ → List ℕ → Bool
is_numbered stem i card = bytes_eq (card_name card) (numbered_name stem i)

-- the index of the first of so many cards that is named END
unfoldable pub end_among : ℕ → List ℕ → Option ℕ
end_among zero cards = None
end_among (suc n) cards = if is_named (codes "END") (take 80 cards) then Some 0 else option_map suc (end_among n (drop 80 cards))

-- the index of END in a header, if it has one
abbrev pub end_of : List ℕ → Option ℕ
end_of header = end_among (length header / 80) header

-- the index of the first of so many cards that has this property
unfoldable pub first_among : (List ℕ → Bool) → ℕ → List ℕ → Option ℕ
first_among has zero cards = None
first_among has (suc n) cards = if has (take 80 cards) then Some 0 else option_map suc (first_among has n (drop 80 cards))

-- the index of the first card before END that has this property
abbrev pub first_card : (List ℕ → Bool) → List ℕ → Option ℕ
first_card has header = first_among has (unwrap_or (end_of header) 0) header
