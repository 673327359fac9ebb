-- The checks of a packed header, each a condition with the place where it refuses, in their order (FITS 4.0, sections 10.1.1, 10.1.2
-- and 10.4). The form of its table is checked before.
use Rattle.std.specs.Prelude.{ℕ, pos, negsuc, ◌^◌, ◌&&◌, ◌||◌, not, ◌==◌, nat_lt, nat_le, Bool, false, ℤ, List, [], ◌∷◌}
use Rattle.std.specs.Prelude.{◌++◌, length, codes, Option, Some, None, is_none, is_some, unwrap_or, Result, if◌then◌else◌}
use Rattle.std.specs.List.{flat_map, position, range_with_len}
use Rattle.std.specs.Ordering.{int_eq}
use Rattle.std.specs.Str.{str_eq_ignore_ascii_case}
use Rattle.fz_base.specs.Refusal.{refusal, first_refusal}
use Rattle.fz_base.specs.declared.fault.Fault.{Fault}
use Rattle.fz_base.specs.declared.fault.Place.TheVariants.{Card}
use Rattle.fz_base.specs.declared.kind.Kind.{Kind}
use Rattle.fz_base.specs.declared.kind.Kind.TheVariants.{BadCard, Limit, UnknownCodec, Quantised, RowCount, MisplacedPrimary, PlioOffset}
use Rattle.fz_card.specs.Layout.{card_name, padded}
use Rattle.fz_card.specs.Made.{numbered_name}
use Rattle.fz_card.specs.Naming.{number_behind, up_to}
use Rattle.fz_card.specs.Reading.{integer_of, logical_of, text_of, is_text}
use Rattle.fz_block.specs.Cards.{is_named}
use Rattle.fz_block.specs.Checks.{unless_refused, refused_at}
use Rattle.fz_block.specs.Hdus.{cards_of, size_at, size_in}
use Rattle.fz_grid.specs.Arrays.{product}
use Rattle.fz_grid.specs.Grid.{tile_count}
use Rattle.fz_head.specs.declared.plan.Plan.{Plan}
use Rattle.fz_head.specs.CardLists.{index_of}
use Rattle.fz_head.specs.PackChecks.{is_offset}
use Rattle.fz_head.specs.PackedPlan.{word_in, numbered_in, size_of, said_axes, said_tile, parameter_number}
use Rattle.fz_head.specs.PackedPlan.{is_codec_name, is_plain_name, is_plio_name, is_rice_name, said_codec, plan_of_cards}
use Rattle.fz_head.specs.PlainHeader.{axis_count}

-- the header is refused at the first card of this name, for this reason
abbrev pub at_name : ℕ → List ℕ → List (List ℕ) → Kind → Fault
at_name k name cards kind = refusal k (Card (unwrap_or (index_of name cards) 0)) kind

abbrev pub at_word : ℕ → List ℕ → List (List ℕ) → Kind → Fault
at_word k word cards kind = at_name k (padded word) cards kind

-- a card that must be there is missing: refused at END
abbrev pub missing : ℕ → List ℕ → List (List ℕ) → Bool × Fault
missing k name cards = (is_none (index_of name cards), refusal k (Card (length cards)) BadCard)

abbrev pub has_word : List ℕ → List (List ℕ) → Bool
has_word word cards = is_some (index_of (padded word) cards)

-- the integer is this one
abbrev pub is_integer : ℤ → Option ℤ → Bool
is_integer v None = false
is_integer v (Some found) = int_eq found v

-- the integer is 1 or more
abbrev pub is_positive : Option ℤ → Bool
is_positive None = false
is_positive (Some (pos n)) = nat_lt 0 n
is_positive (Some (negsuc n)) = false

-- The columns of an image whose pixels were scaled or masked: their names, in any case of letters.
abbrev pub names_scaling : Option (List ℕ) → Bool
names_scaling None = false
names_scaling (Some text) =
    str_eq_ignore_ascii_case text (codes "ZSCALE")
    || (str_eq_ignore_ascii_case text (codes "ZZERO")
    || (str_eq_ignore_ascii_case text (codes "ZBLANK")
    || str_eq_ignore_ascii_case text (codes "NULL_PIXEL_MASK")))

-- the card says that pixels were scaled or masked: ZSCALE, ZZERO, or TTYPEi of one of so many columns
abbrev pub is_scaling : ℕ → List ℕ → Bool
is_scaling columns card =
    is_named (codes "ZSCALE") card
    || (is_named (codes "ZZERO") card
    || (is_some (up_to columns (number_behind (codes "TTYPE") (card_name card))) && names_scaling (text_of card)))

-- how many columns the table has
abbrev pub column_count : List (List ℕ) → ℕ
column_count cards = size_of (word_in (codes "TFIELDS") cards)

-- no pixels were scaled or masked
abbrev pub scaling_check : ℕ → List (List ℕ) → Bool × Fault
scaling_check k cards = refused_at k (position (is_scaling (column_count cards)) cards) Quantised

-- ZCMPTYPE names one of the codecs
abbrev pub codec_checks : ℕ → List (List ℕ) → List (Bool × Fault)
codec_checks k cards =
    missing k (padded (codes "ZCMPTYPE")) cards
    ∷ (is_none (said_codec cards), at_word k (codes "ZCMPTYPE") cards BadCard)
    ∷ (not (is_codec_name (said_codec cards)), at_word k (codes "ZCMPTYPE") cards UnknownCodec)
    ∷ []

-- the bits of a pixel of an integer image
abbrev pub is_integer_size : Option ℤ → Bool
is_integer_size v = is_integer (pos 8) v || (is_integer (pos 16) v || (is_integer (pos 32) v || is_integer (pos 64) v))

-- ZBITPIX is that of an integer image, and pixels of 64 bits have no code
abbrev pub bitpix_checks : ℕ → List (List ℕ) → List (Bool × Fault)
bitpix_checks k cards =
    let bitpix = integer_of (word_in (codes "ZBITPIX") cards) in
    missing k (padded (codes "ZBITPIX")) cards
    ∷ (is_integer (negsuc 31) bitpix || is_integer (negsuc 63) bitpix, at_word k (codes "ZBITPIX") cards Quantised)
    ∷ (not (is_integer_size bitpix), at_word k (codes "ZBITPIX") cards BadCard)
    ∷ (is_integer (pos 64) bitpix && not (is_plain_name (said_codec cards)), at_word k (codes "ZCMPTYPE") cards UnknownCodec)
    ∷ []

-- ZNAXIS is 1 to 9
abbrev pub axis_count_checks : ℕ → List (List ℕ) → List (Bool × Fault)
axis_count_checks k cards =
    missing k (padded (codes "ZNAXIS")) cards
    ∷ (not (is_positive (integer_of (word_in (codes "ZNAXIS") cards))), at_word k (codes "ZNAXIS") cards BadCard)
    ∷ (nat_lt 9 (axis_count cards), at_word k (codes "ZNAXIS") cards Limit)
    ∷ []

-- ZNAXISi is 1 to 2^31 - 1
abbrev pub axis_checks : ℕ → List (List ℕ) → ℕ → List (Bool × Fault)
axis_checks k cards i =
    let name = numbered_name (codes "ZNAXIS") i in
    missing k name cards
    ∷ (not (is_positive (integer_of (numbered_in (codes "ZNAXIS") i cards))), at_name k name cards BadCard)
    ∷ (nat_lt 2147483647 (size_of (numbered_in (codes "ZNAXIS") i cards)), at_name k name cards Limit)
    ∷ []

-- ZTILEi is 1 or more, if it is there
abbrev pub tile_check : ℕ → List (List ℕ) → ℕ → Bool × Fault
tile_check k cards i =
    let name = numbered_name (codes "ZTILE") i in
    (is_some (index_of name cards) && not (is_positive (integer_of (numbered_in (codes "ZTILE") i cards))), at_name k name cards BadCard)

-- at most 2^40 pixels, 2^26 pixels in a tile, and 2^31 - 1 tiles
abbrev pub grid_check : ℕ → List (List ℕ) → Bool × Fault
grid_check k cards = (
  nat_lt (2 ^ 40) (product (said_axes cards))
      || (nat_lt (2 ^ 26) (product (said_tile cards))
      || nat_lt 2147483647 (tile_count (said_axes cards) (said_tile cards))),
  at_word k (codes "ZNAXIS") cards Limit,
)

-- the axes of the image, and then its tiles
abbrev pub shape_checks : ℕ → List (List ℕ) → List (Bool × Fault)
shape_checks k cards =
    let axes = range_with_len 1 (axis_count cards) in
    axis_count_checks k cards
    ++ (flat_map (axis_checks k cards) axes
    ++ (flat_map (λ i. tile_check k cards i ∷ []) axes
    ++ grid_check k cards ∷ []))

-- the value of a parameter, ZVALi, must be there; it is refused at ZNAMEi if it is not
abbrev pub value_missing : ℕ → List (List ℕ) → ℕ → Bool × Fault
value_missing k cards i =
    (is_none (index_of (numbered_name (codes "ZVAL") i) cards), at_name k (numbered_name (codes "ZNAME") i) cards BadCard)

-- a number from 1 to 32767
abbrev pub is_block : Option ℤ → Bool
is_block v = is_positive v && nat_le (size_in v) 32767

-- BLOCKSIZE is 1 to 32767
abbrev pub block_checks : ℕ → List (List ℕ) → Option ℕ → List (Bool × Fault)
block_checks k cards None = []
block_checks k cards (Some i) =
    value_missing k cards i
    ∷ (not (is_block (integer_of (numbered_in (codes "ZVAL") i cards))), at_name k (numbered_name (codes "ZVAL") i) cards BadCard)
    ∷ []

-- the bytes of a number that a Rice code may have
abbrev pub is_bytepix : Option ℤ → Bool
is_bytepix v = is_integer (pos 1) v || (is_integer (pos 2) v || is_integer (pos 4) v)

-- BYTEPIX is 1, 2 or 4; 8 is of the standard, and not taken
abbrev pub bytepix_checks : ℕ → List (List ℕ) → Option ℕ → List (Bool × Fault)
bytepix_checks k cards None = []
bytepix_checks k cards (Some i) =
    let value = integer_of (numbered_in (codes "ZVAL") i cards) in
    value_missing k cards i
    ∷ (is_integer (pos 8) value, at_name k (numbered_name (codes "ZVAL") i) cards UnknownCodec)
    ∷ (not (is_bytepix value), at_name k (numbered_name (codes "ZVAL") i) cards BadCard)
    ∷ []

-- the parameters of a Rice code; those of other codecs are not looked at
abbrev pub parameter_checks : ℕ → List (List ℕ) → List (Bool × Fault)
parameter_checks k cards =
    if is_rice_name (said_codec cards)
    then block_checks k cards (parameter_number (codes "BLOCKSIZE") cards) ++ bytepix_checks k cards (parameter_number (codes "BYTEPIX") cards)
    else []

-- if this card is there and does not say this number, the header is refused at it
abbrev pub must_be : ℕ → List (List ℕ) → List ℕ → ℤ → Bool × Fault
must_be k cards word v =
    (not (has_word (codes "ZSIMPLE") cards) && (has_word word cards && not (is_integer v (integer_of (word_in word cards)))), at_word k word cards BadCard)

-- ZSIMPLE is T, and is in HDU 1 after a primary with NAXIS 0; ZTENSION is IMAGE; without ZSIMPLE, ZPCOUNT is 0 and ZGCOUNT 1
abbrev pub sort_checks : ℕ → List (List ℕ) → Bool → List (Bool × Fault)
sort_checks k cards after_empty =
    (has_word (codes "ZSIMPLE") cards && not (unwrap_or (logical_of (word_in (codes "ZSIMPLE") cards)) false), at_word k (codes "ZSIMPLE") cards BadCard)
    ∷ (
      has_word (codes "ZTENSION") cards && not (is_text (codes "IMAGE") (text_of (word_in (codes "ZTENSION") cards))),
      at_word k (codes "ZTENSION") cards BadCard,
    )
    ∷ (has_word (codes "ZSIMPLE") cards && not after_empty, at_word k (codes "ZSIMPLE") cards MisplacedPrimary)
    ∷ must_be k cards (codes "ZPCOUNT") (pos 0)
    ∷ must_be k cards (codes "ZGCOUNT") (pos 1)
    ∷ []

-- PLIO_1 takes no pixels with an offset, since what the usual tools add to them is not restated here
abbrev pub line_list_check : ℕ → List (List ℕ) → Bool × Fault
line_list_check k cards =
    (is_plio_name (said_codec cards) && is_some (position is_offset cards), refusal k (Card (unwrap_or (position is_offset cards) 0)) PlioOffset)

-- NAXIS2 is the number of tiles
abbrev pub row_check : ℕ → List ℕ → Bool × Fault
row_check k header =
    (not (size_at header 4 == tile_count (said_axes (cards_of header)) (said_tile (cards_of header))), refusal k (Card 4) RowCount)

-- the checks of the packed header of HDU k, which may be that after an empty primary
abbrev pub packed_checks : ℕ → List ℕ → Bool → List (Bool × Fault)
packed_checks k header after_empty =
    let cards = cards_of header in
    scaling_check k cards
    ∷ (codec_checks k cards
    ++ (bitpix_checks k cards
    ++ (shape_checks k cards
    ++ (parameter_checks k cards
    ++ (sort_checks k cards after_empty
    ++ (line_list_check k cards ∷ row_check k header ∷ []))))))

-- the plan that the packed header of HDU k stands for, or the fault of the first check that refuses
unfoldable pub plan_answer : ℕ → List ℕ → Bool → Result Plan Fault
plan_answer k header after_empty = unless_refused (plan_of_cards (cards_of header)) (first_refusal (packed_checks k header after_empty))
