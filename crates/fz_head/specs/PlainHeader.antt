-- The header of the image that a packed header stands for, and that of a part of it (FITS 4.0, sections 4.4.1 and 10.1.2).
use Rattle.std.specs.Prelude.{ℕ, ◌-◌, ◌&&◌, ◌||◌, not, Bool, List, [], ◌∷◌, ◌++◌, drop, map, unwrap_or, codes, is_some, slice_index, if◌then◌else◌}
use Rattle.std.specs.List.{filter, find, flat_map, range_with_len}
use Rattle.std.specs.Option.{option_to_list}
use Rattle.fz_card.specs.Layout.{card_name, padded}
use Rattle.fz_card.specs.Made.{numbered_name}
use Rattle.fz_card.specs.Naming.{plain_name, is_dropped, is_in, is_in_some}
use Rattle.fz_card.specs.Reading.{integer_of, has_text}
use Rattle.fz_card.specs.Tables.{Names}
use Rattle.fz_card.specs.Tables.Names.{Word, Numbered}
use Rattle.fz_card.specs.CardLists.{first_of_name}
use Rattle.fz_block.specs.Cards.{is_named}
use Rattle.fz_block.specs.Hdus.{size_in}
use Rattle.fz_grid.specs.declared.region.Region.{Region}
use Rattle.fz_head.specs.CardLists.{the_card}
use Rattle.fz_head.specs.PackedHeader.{number_card, flag_card, word_card, numbered_number_card}

-- the card under the name that it has in the image: only columns 1 to 8 change
abbrev pub plain_card : List ℕ → List ℕ
plain_card card = unwrap_or (plain_name (card_name card)) (card_name card) ++ drop 8 card

-- the cards, or this one if there is none
abbrev pub or_card : List ℕ → List (List ℕ) → List (List ℕ)
or_card card [] = card ∷ []
or_card card (c ∷ cs) = c ∷ cs

-- the first card of this word, as a card of the image
abbrev pub restored_word : List ℕ → List (List ℕ) → List (List ℕ)
restored_word word cards = map plain_card (option_to_list (first_of_name (padded word) cards))

-- the image is a primary
abbrev pub was_primary : List (List ℕ) → Bool
was_primary cards = is_some (first_of_name (padded (codes "ZSIMPLE")) cards)

-- how many axes the image has
abbrev pub axis_count : List (List ℕ) → ℕ
axis_count cards = size_in (integer_of (the_card (padded (codes "ZNAXIS")) cards))

-- whether the card says what the image is: a primary, or which extension
abbrev pub says_what : List ℕ → Bool
says_what card = is_named (codes "ZSIMPLE") card || is_named (codes "ZTENSION") card

-- the first card of the image: SIMPLE or XTENSION, and XTENSION = 'IMAGE' if the packed header has neither
abbrev pub leading_card : List (List ℕ) → List (List ℕ)
leading_card cards = or_card (word_card (codes "XTENSION") (codes "IMAGE")) (map plain_card (option_to_list (find says_what cards)))

-- the card of axis i
abbrev pub axis_card : List (List ℕ) → ℕ → List (List ℕ)
axis_card cards i = map plain_card (option_to_list (first_of_name (numbered_name (codes "ZNAXIS") i) cards))

-- BITPIX and NAXIS of the image
abbrev pub size_cards : List (List ℕ) → List (List ℕ)
size_cards cards = restored_word (codes "ZBITPIX") cards ++ restored_word (codes "ZNAXIS") cards

-- PCOUNT and GCOUNT, which an extension has after its axes: 0 and 1 if the packed header does not say them
abbrev pub count_cards_of : Bool → List (List ℕ) → List (List ℕ)
count_cards_of primary cards =
    if primary then []
    else or_card (number_card (codes "PCOUNT") 0) (restored_word (codes "ZPCOUNT") cards)
    ++ or_card (number_card (codes "GCOUNT") 1) (restored_word (codes "ZGCOUNT") cards)

abbrev pub count_cards : List (List ℕ) → List (List ℕ)
count_cards cards = count_cards_of (was_primary cards) cards

-- the names of the cards that are at the front of the image's header, which has so many axes
abbrev pub front_names : ℕ → List Names
front_names n =
    Word (codes "ZSIMPLE") ∷ Word (codes "ZTENSION") ∷ Word (codes "ZBITPIX") ∷ Word (codes "ZNAXIS") ∷ Numbered (codes "ZNAXIS") n ∷ []

-- of an extension also these
abbrev pub count_names : List Names
count_names = Word (codes "ZPCOUNT") ∷ Word (codes "ZGCOUNT") ∷ []

-- the card is at the front of the image's header
abbrev pub is_front : Bool → ℕ → List ℕ → Bool
is_front primary n card =
    is_in_some (front_names n) (card_name card) || (not primary && is_in_some count_names (card_name card))

-- the card is only the table's: by its name, as an axis that the image has not, or as the name of the table
abbrev pub is_table_card : ℕ → List ℕ → Bool
is_table_card n card =
    is_dropped (card_name card)
    || (is_in (Numbered (codes "ZNAXIS") 99) (card_name card) && not (is_in (Numbered (codes "ZNAXIS") n) (card_name card))
    || (is_named (codes "EXTNAME") card && has_text (codes "COMPRESSED_IMAGE") card))

-- the card comes back in its place
abbrev pub is_kept : Bool → ℕ → List ℕ → Bool
is_kept primary n card = not (is_front primary n card) && not (is_table_card n card)

-- all cards that come back in their places
abbrev pub other_cards_of : Bool → ℕ → List (List ℕ) → List (List ℕ)
other_cards_of primary n cards = map plain_card (filter (is_kept primary n) cards)

abbrev pub other_cards : List (List ℕ) → List (List ℕ)
other_cards cards = other_cards_of (was_primary cards) (axis_count cards) cards

-- the cards of the image that a packed header with these cards stands for
unfoldable pub plain_header : List (List ℕ) → List (List ℕ)
plain_header cards =
    leading_card cards
    ++ (size_cards cards
    ++ (flat_map (axis_card cards) (range_with_len 1 (axis_count cards))
    ++ (count_cards cards
    ++ other_cards cards)))

-- what a part of an image does not keep: what follows the image in its file, its sums, and what its HDU took from the primary
abbrev pub whole_names : List Names
whole_names =
    Word (codes "EXTEND") ∷ Word (codes "BLOCKED") ∷ Word (codes "PCOUNT") ∷ Word (codes "GCOUNT") ∷ Word (codes "CHECKSUM")
    ∷ Word (codes "DATASUM") ∷ Word (codes "INHERIT") ∷ []

-- those of them that a part of the image keeps
abbrev pub part_cards_of : Bool → ℕ → List (List ℕ) → List (List ℕ)
part_cards_of primary n cards = filter (λ card. not (is_in_some whole_names (card_name card))) (other_cards_of primary n cards)

-- the cards of the primary image that holds a region of the image
unfoldable pub cutout_header : List (List ℕ) → Region → List (List ℕ)
cutout_header cards region =
    or_card (flag_card (codes "SIMPLE")) (restored_word (codes "ZSIMPLE") cards)
    ++ (size_cards cards
    ++ (map (λ i. numbered_number_card (codes "NAXIS") i (slice_index region.len (i - 1))) (range_with_len 1 region.n)
    ++ part_cards_of (was_primary cards) (axis_count cards) cards))
