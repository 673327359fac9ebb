-- The header of the table that a packed image is in (FITS 4.0, sections 7.3.1, 7.3.5 and 10.1.1 to 10.1.3).
use Rattle.std.specs.Prelude.{ℕ, pos, ◌-◌, true, Bool, ℤ, List, [], ◌∷◌, ◌++◌, drop, map, unwrap_or, codes, decimal, slice_index, if◌then◌else◌}
use Rattle.std.specs.List.{range_with_len}
use Rattle.std.specs.Ordering.{int_eq}
use Rattle.fz_card.specs.Layout.{card_name, padded}
use Rattle.fz_card.specs.Made.{int_card_bytes, logical_card_bytes, text_card_bytes, numbered_name}
use Rattle.fz_card.specs.Naming.{packed_name}
use Rattle.fz_sum.specs.Cards.{datasum_card, blank_checksum_card}
use Rattle.fz_grid.specs.Grid.{tile_count}
use Rattle.fz_grid.specs.Region.{lengths_of}
use Rattle.fz_tile.specs.declared.codec.Codec.{Codec}
use Rattle.fz_tile.specs.declared.codec.Codec.TheVariants.{Rice, Plio, Plain}
use Rattle.fz_head.specs.declared.plan.Plan.{Plan}
use Rattle.fz_head.specs.declared.totals.Totals.{Totals}

-- cards of a word and a value
abbrev pub number_card : List ℕ → ℕ → List ℕ
number_card word value = int_card_bytes (padded word) (pos value)

abbrev pub flag_card : List ℕ → List ℕ
flag_card word = logical_card_bytes (padded word) true

abbrev pub word_card : List ℕ → List ℕ → List ℕ
word_card word text = text_card_bytes (padded word) text

-- cards of a stem with a number after it, and a value
abbrev pub numbered_number_card : List ℕ → ℕ → ℕ → List ℕ
numbered_number_card stem i value = int_card_bytes (numbered_name stem i) (pos value)

abbrev pub numbered_word_card : List ℕ → ℕ → List ℕ → List ℕ
numbered_word_card stem i text = text_card_bytes (numbered_name stem i) text

-- the card under another name, if it has another one there: only columns 1 to 8 change
abbrev pub packed_card : List ℕ → List ℕ
packed_card card = unwrap_or (packed_name (card_name card)) (card_name card) ++ drop 8 card

-- the form of a descriptor column: descriptors of 32 or 64 bits, the letter of the elements, and the greatest count
abbrev pub descriptor_form : Bool → List ℕ → ℕ → List ℕ
descriptor_form wide letter most = (if wide then codes "1Q" else codes "1P") ++ letter ++ codes "(" ++ decimal most ++ codes ")"

-- the elements of coded tiles: 16-bit words of a line list, otherwise bytes
abbrev pub coded_letter : Codec → List ℕ
coded_letter (Rice block bytepix) = codes "B"
coded_letter Plio = codes "I"
coded_letter Plain = codes "B"

-- the elements of stored tiles: pixels
abbrev pub stored_letter : ℤ → List ℕ
stored_letter bitpix =
    if int_eq bitpix (pos 8) then codes "B"
    else (if int_eq bitpix (pos 16) then codes "I"
    else (if int_eq bitpix (pos 32) then codes "J"
    else codes "K"))

-- the name of the codec
abbrev pub codec_name : Codec → List ℕ
codec_name (Rice block bytepix) = codes "RICE_1"
codec_name Plio = codes "PLIO_1"
codec_name Plain = codes "NOCOMPRESS"

-- the cards that every binary table has
abbrev pub table_cards : Plan → Totals → List (List ℕ)
table_cards p s =
    word_card (codes "XTENSION") (codes "BINTABLE")
    ∷ number_card (codes "BITPIX") 8
    ∷ number_card (codes "NAXIS") 2
    ∷ numbered_number_card (codes "NAXIS") 1 (if p.wide then 32 else 16)
    ∷ numbered_number_card (codes "NAXIS") 2 (tile_count (lengths_of p.shape) (lengths_of p.tile))
    ∷ number_card (codes "PCOUNT") s.heap
    ∷ number_card (codes "GCOUNT") 1
    ∷ number_card (codes "TFIELDS") 2
    ∷ []

-- the two descriptor columns: coded tiles, and stored tiles
abbrev pub column_cards : Plan → Totals → List (List ℕ)
column_cards p s =
    numbered_word_card (codes "TTYPE") 1 (codes "COMPRESSED_DATA")
    ∷ numbered_word_card (codes "TFORM") 1 (descriptor_form p.wide (coded_letter p.codec) s.emax_coded)
    ∷ numbered_word_card (codes "TTYPE") 2 (codes "UNCOMPRESSED_DATA")
    ∷ numbered_word_card (codes "TFORM") 2 (descriptor_form p.wide (stored_letter p.bitpix) s.emax_stored)
    ∷ []

-- how the image is packed: the codec, and the length of a tile along each axis
abbrev pub tile_cards : Plan → List (List ℕ)
tile_cards p =
    flag_card (codes "ZIMAGE")
    ∷ word_card (codes "ZCMPTYPE") (codec_name p.codec)
    ∷ map (λ i. numbered_number_card (codes "ZTILE") i (slice_index p.tile.len (i - 1))) (range_with_len 1 p.shape.n)

-- the parameters of the codec
abbrev pub parameter_cards : Codec → List (List ℕ)
parameter_cards (Rice block bytepix) =
    numbered_word_card (codes "ZNAME") 1 (codes "BLOCKSIZE")
    ∷ numbered_number_card (codes "ZVAL") 1 block
    ∷ numbered_word_card (codes "ZNAME") 2 (codes "BYTEPIX")
    ∷ numbered_number_card (codes "ZVAL") 2 bytepix
    ∷ []
parameter_cards Plio = []
parameter_cards Plain = []

-- the cards of the sums, before the sums are known: the sum 0, and sixteen times `0`
abbrev pub sum_cards : Bool → List (List ℕ)
sum_cards sums = if sums then datasum_card 0 ∷ blank_checksum_card ∷ [] else []

-- the cards before those of the image
abbrev pub made_cards : Plan → Totals → List (List ℕ)
made_cards p s = table_cards p s ++ (column_cards p s ++ (tile_cards p ++ parameter_cards p.codec))

-- the cards of the packed header of an image with these cards, and these cards of sums at its end
abbrev pub packed_with : List (List ℕ) → Plan → Totals → List (List ℕ) → List (List ℕ)
packed_with cards p s sums = made_cards p s ++ (map packed_card cards ++ sums)

-- the same before the sums are known
unfoldable pub packed_header : List (List ℕ) → Plan → Totals → List (List ℕ)
packed_header cards p s = packed_with cards p s (sum_cards s.sums)
