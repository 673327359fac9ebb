-- How the image of a packed header is packed: what its cards say, and what counts if they say nothing (FITS 4.0, sections 10.1.1,
-- 10.1.2 and 10.4.1).
use Rattle.std.specs.Prelude.{ℕ, pos, ◌==◌, ◌||◌, Bool, min, ℤ, List, [], ◌∷◌, map, codes, Option, Some, None, is_some, unwrap_or, if◌then◌else◌}
use Rattle.std.specs.List.{filter_map, range_with_len}
use Rattle.std.specs.Option.{option_map}
use Rattle.fz_card.specs.Layout.{card_name, padded}
use Rattle.fz_card.specs.Made.{numbered_name}
use Rattle.fz_card.specs.Naming.{number_behind, up_to}
use Rattle.fz_card.specs.Reading.{integer_of, text_of, has_text, is_text}
use Rattle.fz_block.specs.Facts.{nine_axes}
use Rattle.fz_block.specs.Hdus.{size_in}
use Rattle.fz_tile.specs.declared.codec.Codec.{Codec}
use Rattle.fz_tile.specs.declared.codec.Codec.TheVariants.{Rice, Plio, Plain}
use Rattle.fz_head.specs.declared.plan.Plan.{Plan}
use Rattle.fz_head.specs.CardLists.{index_of, the_card}
use Rattle.fz_head.specs.PlainHeader.{axis_count, was_primary}
use Rattle.fz_head.specs.Planned.{is_wide}

-- the card of a word, and that of a stem with a number
abbrev pub word_in : List ℕ → List (List ℕ) → List ℕ
word_in word cards = the_card (padded word) cards

abbrev pub numbered_in : List ℕ → ℕ → List (List ℕ) → List ℕ
numbered_in stem i cards = the_card (numbered_name stem i) cards

-- the number that a card says, without its sign; 0 if it says none
abbrev pub size_of : List ℕ → ℕ
size_of card = size_in (integer_of card)

-- the lengths of the axes of the image
abbrev pub said_axes : List (List ℕ) → List ℕ
said_axes cards = map (λ i. size_of (numbered_in (codes "ZNAXIS") i cards)) (range_with_len 1 (axis_count cards))

-- the length of a tile along axis i if no card says it: the whole first axis, and 1 along the others
abbrev pub default_tile : ℕ → ℕ → ℕ
default_tile i axis = if i == 1 then axis else 1

-- the length of a tile along axis i, which is no longer than the axis
abbrev pub tile_along : List (List ℕ) → ℕ → ℕ
tile_along cards i =
    let axis = size_of (numbered_in (codes "ZNAXIS") i cards) in
    if is_some (index_of (numbered_name (codes "ZTILE") i) cards) then min (size_of (numbered_in (codes "ZTILE") i cards)) axis
    else default_tile i axis

abbrev pub said_tile : List (List ℕ) → List ℕ
said_tile cards = map (tile_along cards) (range_with_len 1 (axis_count cards))

-- the number of a card ZNAMEi with this text
abbrev pub parameter_in : List ℕ → List ℕ → Option ℕ
parameter_in text card = if has_text text card then up_to 999 (number_behind (codes "ZNAME") (card_name card)) else None

-- the least of some numbers
abbrev pub least : List ℕ → Option ℕ
least [] = None
least (n ∷ ns) = Some (unwrap_or (option_map (min n) (least ns)) n)

-- the number of a parameter: the least i for which ZNAMEi has this text
abbrev pub parameter_number : List ℕ → List (List ℕ) → Option ℕ
parameter_number text cards = least (filter_map (parameter_in text) cards)

-- the value of the parameter of this number, or another if there is none
abbrev pub value_of_number : List (List ℕ) → ℕ → Option ℕ → ℕ
value_of_number cards other None = other
value_of_number cards other (Some i) = size_of (numbered_in (codes "ZVAL") i cards)

abbrev pub parameter : List ℕ → ℕ → List (List ℕ) → ℕ
parameter text other cards = value_of_number cards other (parameter_number text cards)

-- the names of the codecs
abbrev pub is_rice_name : Option (List ℕ) → Bool
is_rice_name text = is_text (codes "RICE_1") text || is_text (codes "RICE_ONE") text

abbrev pub is_plio_name : Option (List ℕ) → Bool
is_plio_name text = is_text (codes "PLIO_1") text

abbrev pub is_plain_name : Option (List ℕ) → Bool
is_plain_name text = is_text (codes "NOCOMPRESS") text

abbrev pub is_codec_name : Option (List ℕ) → Bool
is_codec_name text = is_rice_name text || (is_plio_name text || is_plain_name text)

-- the text that names the codec of the image
abbrev pub said_codec : List (List ℕ) → Option (List ℕ)
said_codec cards = text_of (word_in (codes "ZCMPTYPE") cards)

-- the codec of a name: the parameters of a Rice code are 32 and 4 if no card says them
abbrev pub codec_named : Option (List ℕ) → List (List ℕ) → Codec
codec_named text cards =
    if is_rice_name text then Rice (parameter (codes "BLOCKSIZE") 32 cards) (parameter (codes "BYTEPIX") 4 cards)
    else (if is_plio_name text then Plio else Plain)

-- the bits of a pixel, with a minus for floating-point numbers
abbrev pub said_bitpix : List (List ℕ) → ℤ
said_bitpix cards = unwrap_or (integer_of (word_in (codes "ZBITPIX") cards)) (pos 0)

-- the plan that a packed header with these cards stands for
unfoldable pub plan_of_cards : List (List ℕ) → Plan
plan_of_cards cards = record {
  codec = codec_named (said_codec cards) cards;
  bitpix = said_bitpix cards;
  shape = nine_axes (said_axes cards);
  tile = nine_axes (said_tile cards);
  primary = was_primary cards;
  wide = is_wide (said_bitpix cards) (said_axes cards);
}
