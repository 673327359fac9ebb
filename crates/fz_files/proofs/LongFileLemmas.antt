-- The file with pixels of 64 bits by the definitions.
use Rattle.std.proofs.Common.{◌≡◌, [], ◌∷◌, ◌++◌, true, false, codes, length, append-nil, refl, sym, rules, ◌∙◌, arith}
use Rattle.std.proofs.lemmas.Fmt.{decimal_digit}
use Rattle.fz_card.specs.Layout.{padded}
use Rattle.fz_card.specs.Made.{text_card_bytes}
use Rattle.fz_card.specs.Naming.{number_behind, packed_name}
use Rattle.fz_card.specs.Reading.{integer_of}
use Rattle.fz_card.specs.Tables.{renamings}
use Rattle.fz_grid.specs.Grid.{tile}
use Rattle.fz_block.specs.Cards.{end_among}
use Rattle.fz_block.specs.Facts.{facts_of}
use Rattle.fz_block.specs.Hdus.{IsHeader, AreHdusOf, cards_of, data_len_of, header_bytes}
use Rattle.fz_block.specs.Header.{whole_blocks_of}
use Rattle.fz_head.specs.Packable.{is_packable}
use Rattle.fz_head.specs.PackedHeader.{number_card, numbered_number_card, numbered_word_card, packed_card, packed_header, descriptor_form}
use Rattle.fz_head.specs.Planned.{pack_plan_of}
use Rattle.fz_files.specs.HandMade.{card_of, block_of}
use Rattle.fz_files.specs.LongFile.{line_cards, line_pixels, line_hdu, line_file, long_options, long_plan, long_tiles, long_rows, long_data, long_cards, long_file}
use Rattle.fz_files.specs.Packed.{IsPackedFile, array_of, heap_of, packed_data, packed_file, packed_from, packed_hdu, packed_image, packed_table, rows_from, table_header, tile_codes}
use Rattle.fz_files.proofs.WorkedCards.{value_is, digit_name, numbered_is, decimal_16, empty_is, made_xtension, made_bitpix, made_naxis, made_naxis1, made_gcount, made_tfields, made_ttype1, made_no_codes, made_ttype2, made_zimage, made_nocompress, packed_simple}

pub tiles_are : tile_codes long_plan (array_of long_plan line_hdu.payload) ≡ long_tiles
unfolding tile_codes tile
tiles_are = refl

pub rows_are : rows_from long_plan 0 long_tiles ≡ long_rows
unfolding rows_from
rows_are = refl

pub heap_is : heap_of long_tiles ≡ line_pixels
unfolding heap_of
heap_is = refl

pub is_planned : pack_plan_of long_options (facts_of 0 0 line_hdu.header) ≡ long_plan
unfolding pack_plan_of integer_of
is_planned = refl

packable : is_packable (facts_of 0 0 line_hdu.header) ≡ true
unfolding is_packable integer_of
packable = refl

cards_before : cards_of line_hdu.header ≡ line_cards
unfolding end_among
cards_before = refl

-- the image is alone in its file
header_is : IsHeader line_hdu.header
unfolding end_among
header_is = record { before = 0; blocks = refl; none = refl; has = search rules }

payload_is : length line_hdu.payload ≡ whole_blocks_of (data_len_of 0 line_hdu.header)
unfolding integer_of
payload_is = refl

is_alone : AreHdusOf line_file (line_hdu ∷ [])
is_alone = record { parts = refl; each = (record { header = header_is; payload = payload_is }, tt) }

-- the cards of the table
made_naxis2 : numbered_number_card (codes "NAXIS") 2 1 ≡ card_of (codes "NAXIS2  =                    1")
made_naxis2 = numbered_is (codes "NAXIS") (codes "1") 2 1 (omega arith) (decimal_digit 1 (omega arith))

made_pcount : number_card (codes "PCOUNT") 16 ≡ card_of (codes "PCOUNT  =                   16")
made_pcount = value_is (padded (codes "PCOUNT")) (codes "16") 16 decimal_16

made_tform2 : numbered_word_card (codes "TFORM") 2 (descriptor_form false (codes "K") 2) ≡ card_of (codes "TFORM2  = '1PK(2)  '")
unfolding text_card_bytes
made_tform2 = rw (digit_name (codes "TFORM") 2 (omega arith), decimal_digit 2 (omega arith)) refl

made_ztile1 : numbered_number_card (codes "ZTILE") 1 2 ≡ card_of (codes "ZTILE1  =                    2")
made_ztile1 = numbered_is (codes "ZTILE") (codes "2") 1 2 (omega arith) (decimal_digit 2 (omega arith))

packed_bitpix : packed_card (card_of (codes "BITPIX  =                   64")) ≡ card_of (codes "ZBITPIX =                   64")
unfolding packed_name renamings
packed_bitpix = refl

packed_naxis : packed_card (card_of (codes "NAXIS   =                    1")) ≡ card_of (codes "ZNAXIS  =                    1")
unfolding packed_name renamings
packed_naxis = refl

packed_axis : packed_card (card_of (codes "NAXIS1  =                    2")) ≡ card_of (codes "ZNAXIS1 =                    2")
unfolding packed_name renamings number_behind
packed_axis = rw (digit_name (codes "NAXIS") 1 (omega arith), digit_name (codes "ZNAXIS") 1 (omega arith)) refl

pub cards_are : table_header long_plan line_cards long_tiles ≡ long_cards
unfolding packed_header heap_of
cards_are = λ i.
    made_xtension i ∷ made_bitpix i ∷ made_naxis i ∷ made_naxis1 i ∷ made_naxis2 i ∷ made_pcount i ∷ made_gcount i ∷ made_tfields i
    ∷ made_ttype1 i ∷ made_no_codes i ∷ made_ttype2 i ∷ made_tform2 i ∷ made_zimage i ∷ made_nocompress i ∷ made_ztile1 i
    ∷ packed_simple i ∷ packed_bitpix i ∷ packed_naxis i ∷ packed_axis i ∷ []

data_are : packed_data long_plan long_tiles ≡ long_data
unfolding rows_from heap_of
data_are = refl

table_is : packed_table false long_plan line_cards long_tiles ≡ block_of long_cards ++ long_data
unfolding packed_table
table_is = λ i. header_bytes (cards_are i) ++ data_are i

image_is : packed_image false long_plan line_hdu ≡ block_of long_cards ++ long_data
image_is = (λ i. packed_table false long_plan (cards_before i) (tiles_are i)) ∙ table_is

hdu_is : packed_hdu long_options 0 line_hdu ≡ long_file
hdu_is = rw (packable, is_planned) (λ i. header_bytes (empty_is i) ++ image_is i)

file_is : packed_file long_options (line_hdu ∷ []) ≡ long_file
unfolding packed_from
file_is = append-nil (packed_hdu long_options 0 line_hdu) ∙ hdu_is

pub is_packed : IsPackedFile long_options line_file long_file
is_packed = record { hdus = line_hdu ∷ []; parts = is_alone; packed = sym file_is }
