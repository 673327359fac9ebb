-- The checks of an image that is to be packed, each a condition with the place where it refuses, in their order.
use Rattle.std.specs.Prelude.{ℕ, ◌+◌, ◌^◌, ◌&&◌, ◌||◌, not, nat_lt, Bool, List, [], ◌∷◌, ◌++◌, length, drop}
use Rattle.std.specs.Prelude.{codes, ◌==◌, Option, is_some, unwrap_or, true, false, Result, if◌then◌else◌}
use Rattle.std.specs.List.{position}
use Rattle.std.specs.Str.{byte}
use Rattle.fz_base.specs.Refusal.{refusal, first_refusal}
use Rattle.fz_base.specs.declared.fault.Fault.{Fault}
use Rattle.fz_base.specs.declared.fault.Place.TheVariants.{Byte, Card}
use Rattle.fz_base.specs.declared.kind.Kind.TheVariants.{Duplicate, HeaderFill, Limit, PlioOffset, Reserved}
use Rattle.fz_card.specs.Layout.{card_name}
use Rattle.fz_card.specs.Naming.{is_reserved, is_in}
use Rattle.fz_card.specs.Reading.{zero_of, has_text}
use Rattle.fz_card.specs.Tables.Names.{Numbered}
use Rattle.fz_block.specs.Cards.{is_named}
use Rattle.fz_block.specs.Checks.{refused_at, unless_refused}
use Rattle.fz_block.specs.Hdus.{behind_end, cards_of}
use Rattle.fz_block.specs.declared.header.Header.{Header}
use Rattle.fz_grid.specs.Arrays.{product}
use Rattle.fz_grid.specs.Grid.{tile_count}
use Rattle.fz_grid.specs.Region.{lengths_of}
use Rattle.fz_tile.specs.declared.codec.Codec.{Codec}
use Rattle.fz_tile.specs.declared.codec.Codec.TheVariants.{Rice, Plio, Plain}
use Rattle.fz_head.specs.declared.options.PackOptions.{PackOptions}
use Rattle.fz_head.specs.declared.plan.Plan.{Plan}
use Rattle.fz_head.specs.declared.totals.Totals.{Totals}
use Rattle.fz_head.specs.Packable.{is_primary}
use Rattle.fz_head.specs.PackedHeader.{packed_header}
use Rattle.fz_head.specs.Planned.{pack_plan_of}
use Rattle.fz_head.specs.Repeats.{first_repeat, image_names, itself}

-- the card that says what the other sort of image is
abbrev pub is_of_other_sort : Bool → List ℕ → Bool
is_of_other_sort primary card = if primary then is_named (codes "XTENSION") card else is_named (codes "SIMPLE") card

-- NAXISi of an axis that the image has not
abbrev pub is_axis_above : ℕ → List ℕ → Bool
is_axis_above n card = is_in (Numbered (codes "NAXIS") 999) (card_name card) && not (is_in (Numbered (codes "NAXIS") n) (card_name card))

-- the usual name of the table of a packed image
abbrev pub is_table_name : List ℕ → Bool
is_table_name card = is_named (codes "EXTNAME") card && has_text (codes "COMPRESSED_IMAGE") card

-- the card would not come back as it is from a packed header
abbrev pub is_reserved_card : Bool → ℕ → List ℕ → Bool
is_reserved_card primary n card =
    is_reserved (card_name card)
    || (is_of_other_sort primary card
    || (is_axis_above n card
    || is_table_name card))

-- the index of the first such card
abbrev pub reserved_index : Bool → ℕ → List (List ℕ) → Option ℕ
reserved_index primary n cards = position (is_reserved_card primary n) cards

-- how many blanks are after END before the first other byte
abbrev pub fill_place : List ℕ → Option ℕ
fill_place header = position (λ b. not (b == byte " ")) (drop (behind_end header) header)

-- a card is BZERO, and its value is not zero
abbrev pub is_offset : List ℕ → Bool
is_offset card = is_named (codes "BZERO") card && not (unwrap_or (zero_of card) true)

-- the codec is PLIO_1
abbrev pub is_plio : Codec → Bool
is_plio (Rice block bytepix) = false
is_plio Plio = true
is_plio Plain = false

-- totals of an image that is not packed yet: they do not change how many cards there are
abbrev pub no_totals : Bool → Totals
no_totals sums = record { heap = 0; emax_coded = 0; emax_stored = 0; sums = sums }

-- no card has a name that an image to be packed may not have
abbrev pub reserved_names : Header → List ℕ → Bool × Fault
reserved_names h header = refused_at h.hdu (reserved_index (is_primary h.sort) h.axes.n (cards_of header)) Reserved

-- no name that may occur only once occurs twice
abbrev pub repeated_names : Header → List ℕ → Bool × Fault
repeated_names h header = refused_at h.hdu (first_repeat image_names itself (cards_of header)) Duplicate

-- only blanks are after the letters END
abbrev pub header_fill : Header → List ℕ → Bool × Fault
header_fill h header = (is_some (fill_place header), refusal h.hdu (Byte (h.start + behind_end header + unwrap_or (fill_place header) 0)) HeaderFill)

-- the checks of only the cards, in their order
abbrev pub name_checks : Header → List ℕ → List (Bool × Fault)
name_checks h header = reserved_names h header ∷ repeated_names h header ∷ header_fill h header ∷ []

-- at most 2^40 pixels, 2^26 pixels in a tile, 2^31 - 1 tiles, and 256 blocks of packed header with END, 36 cards in each
abbrev pub limit_checks : Header → Plan → Bool → List (List ℕ) → List (Bool × Fault)
limit_checks h p sums cards =
    (nat_lt (2 ^ 40) (product (lengths_of p.shape)), refusal h.hdu (Card 2) Limit)
    ∷ (nat_lt (2 ^ 26) (product (lengths_of p.tile)), refusal h.hdu (Card 2) Limit)
    ∷ (nat_lt 2147483647 (tile_count (lengths_of p.shape) (lengths_of p.tile)), refusal h.hdu (Card 2) Limit)
    ∷ (nat_lt 9216 (length (packed_header cards p (no_totals sums)) + 1), refusal h.hdu (Card (length cards)) Limit)
    ∷ []

-- PLIO_1 takes no pixels with an offset, since what the usual tools add to them is not restated here
abbrev pub offset_check : Header → Codec → List (List ℕ) → Bool × Fault
offset_check h codec cards =
    (is_plio codec && is_some (position is_offset cards), refusal h.hdu (Card (unwrap_or (position is_offset cards) 0)) PlioOffset)

-- the checks of an image that is to be packed, by its header and the options
abbrev pub pack_checks : PackOptions → Header → List ℕ → List (Bool × Fault)
pack_checks o h header =
    name_checks h header
    ++ (limit_checks h (pack_plan_of o h) o.sums (cards_of header)
    ++ offset_check h (pack_plan_of o h).codec (cards_of header) ∷ [])

-- the plan, or the fault of the first check that refuses
unfoldable pub pack_answer : PackOptions → Header → List ℕ → Result Plan Fault
pack_answer o h header = unless_refused (pack_plan_of o h) (first_refusal (pack_checks o h header))
