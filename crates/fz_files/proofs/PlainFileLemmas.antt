-- The file without a codec by the definitions.
use Rattle.std.proofs.Common.{◌≡◌, [], ◌∷◌, ◌++◌, true, false, codes, length, append-nil, refl, sym, rules, ◌∙◌, arith}
use Rattle.std.proofs.lemmas.Fmt.{decimal_digit}
use Rattle.fz_card.specs.Layout.{padded}
use Rattle.fz_card.specs.Made.{text_card_bytes}
use Rattle.fz_card.specs.Naming.{number_behind, packed_name}
use Rattle.fz_card.specs.Reading.{integer_of}
use Rattle.fz_card.specs.Tables.{renamings}
use Rattle.fz_grid.specs.Grid.{tile}
use Rattle.fz_block.specs.Cards.{end_among}
use Rattle.fz_block.specs.Facts.{facts_of}
use Rattle.fz_block.specs.Hdus.{IsHeader, AreHdusOf, cards_of, data_len_of, header_bytes}
use Rattle.fz_block.specs.Header.{whole_blocks_of}
use Rattle.fz_head.specs.Packable.{is_packable}
use Rattle.fz_head.specs.PackedHeader.{number_card, numbered_number_card, numbered_word_card, packed_card, packed_header, descriptor_form}
use Rattle.fz_head.specs.Planned.{pack_plan_of}
use Rattle.fz_files.specs.HandMade.{card_of, block_of}
use Rattle.fz_files.specs.Packed.{IsPackedFile, array_of, heap_of, packed_data, packed_file, packed_from, packed_hdu, packed_image, packed_table, rows_from, table_header, tile_codes}
use Rattle.fz_files.specs.PlainFile.{grid_cards, grid_hdu, grid_file, plain_options, plain_plan, plain_tiles, plain_rows, plain_heap, plain_data, plain_cards, plain_file}
use Rattle.fz_files.proofs.WorkedCards.{value_is, digit_name, numbered_is, decimal_15, empty_is, made_xtension, made_bitpix, made_naxis, made_naxis1, made_gcount, made_tfields, made_ttype1, made_no_codes, made_ttype2, made_zimage, made_nocompress, packed_simple, packed_naxis}

pub tiles_are : tile_codes plain_plan (array_of plain_plan grid_hdu.payload) ≡ plain_tiles
unfolding tile_codes tile
tiles_are = refl

pub rows_are : rows_from plain_plan 0 plain_tiles ≡ plain_rows
unfolding rows_from
rows_are = refl

pub heap_is : heap_of plain_tiles ≡ plain_heap
unfolding heap_of
heap_is = refl

pub is_planned : pack_plan_of plain_options (facts_of 0 0 grid_hdu.header) ≡ plain_plan
unfolding pack_plan_of integer_of
is_planned = refl

pub packable : is_packable (facts_of 0 0 grid_hdu.header) ≡ true
unfolding is_packable integer_of
packable = refl

pub cards_before : cards_of grid_hdu.header ≡ grid_cards
unfolding end_among
cards_before = refl

-- the image is alone in its file
header_is : IsHeader grid_hdu.header
unfolding end_among
header_is = record { before = 0; blocks = refl; none = refl; has = search rules }

payload_is : length grid_hdu.payload ≡ whole_blocks_of (data_len_of 0 grid_hdu.header)
unfolding integer_of
payload_is = refl

pub is_alone : AreHdusOf grid_file (grid_hdu ∷ [])
is_alone = record { parts = refl; each = (record { header = header_is; payload = payload_is }, tt) }

-- the cards of the table
made_naxis2 : numbered_number_card (codes "NAXIS") 2 6 ≡ card_of (codes "NAXIS2  =                    6")
made_naxis2 = numbered_is (codes "NAXIS") (codes "6") 2 6 (omega arith) (decimal_digit 6 (omega arith))

made_pcount : number_card (codes "PCOUNT") 15 ≡ card_of (codes "PCOUNT  =                   15")
made_pcount = value_is (padded (codes "PCOUNT")) (codes "15") 15 decimal_15

made_tform2 : numbered_word_card (codes "TFORM") 2 (descriptor_form false (codes "B") 4) ≡ card_of (codes "TFORM2  = '1PB(4)  '")
unfolding text_card_bytes
made_tform2 = rw (digit_name (codes "TFORM") 2 (omega arith), decimal_digit 4 (omega arith)) refl

made_ztile1 : numbered_number_card (codes "ZTILE") 1 2 ≡ card_of (codes "ZTILE1  =                    2")
made_ztile1 = numbered_is (codes "ZTILE") (codes "2") 1 2 (omega arith) (decimal_digit 2 (omega arith))

made_ztile2 : numbered_number_card (codes "ZTILE") 2 2 ≡ card_of (codes "ZTILE2  =                    2")
made_ztile2 = numbered_is (codes "ZTILE") (codes "2") 2 2 (omega arith) (decimal_digit 2 (omega arith))

packed_bitpix : packed_card (card_of (codes "BITPIX  =                    8")) ≡ card_of (codes "ZBITPIX =                    8")
unfolding packed_name renamings
packed_bitpix = refl

packed_axis_1 : packed_card (card_of (codes "NAXIS1  =                    5")) ≡ card_of (codes "ZNAXIS1 =                    5")
unfolding packed_name renamings number_behind
packed_axis_1 = rw (digit_name (codes "NAXIS") 1 (omega arith), digit_name (codes "ZNAXIS") 1 (omega arith)) refl

packed_axis_2 : packed_card (card_of (codes "NAXIS2  =                    3")) ≡ card_of (codes "ZNAXIS2 =                    3")
unfolding packed_name renamings number_behind
packed_axis_2 = rw (digit_name (codes "NAXIS") 2 (omega arith), digit_name (codes "ZNAXIS") 2 (omega arith)) refl

pub cards_are : table_header plain_plan grid_cards plain_tiles ≡ plain_cards
unfolding packed_header heap_of
cards_are = λ i.
    made_xtension i ∷ made_bitpix i ∷ made_naxis i ∷ made_naxis1 i ∷ made_naxis2 i ∷ made_pcount i ∷ made_gcount i ∷ made_tfields i
    ∷ made_ttype1 i ∷ made_no_codes i ∷ made_ttype2 i ∷ made_tform2 i ∷ made_zimage i ∷ made_nocompress i ∷ made_ztile1 i ∷ made_ztile2 i
    ∷ packed_simple i ∷ packed_bitpix i ∷ packed_naxis i ∷ packed_axis_1 i ∷ packed_axis_2 i ∷ []

pub data_are : packed_data plain_plan plain_tiles ≡ plain_data
unfolding rows_from heap_of
data_are = refl

table_is : packed_table false plain_plan grid_cards plain_tiles ≡ block_of plain_cards ++ plain_data
unfolding packed_table
table_is = λ i. header_bytes (cards_are i) ++ data_are i

image_is : packed_image false plain_plan grid_hdu ≡ block_of plain_cards ++ plain_data
image_is = (λ i. packed_table false plain_plan (cards_before i) (tiles_are i)) ∙ table_is

hdu_is : packed_hdu plain_options 0 grid_hdu ≡ plain_file
hdu_is = rw (packable, is_planned) (λ i. header_bytes (empty_is i) ++ image_is i)

file_is : packed_file plain_options (grid_hdu ∷ []) ≡ plain_file
unfolding packed_from
file_is = append-nil (packed_hdu plain_options 0 grid_hdu) ∙ hdu_is

pub is_packed : IsPackedFile plain_options grid_file plain_file
is_packed = record { hdus = grid_hdu ∷ []; parts = is_alone; packed = sym file_is }
