-- The small file with Rice codes by the definitions.
use Rattle.std.proofs.Common.{◌≡◌, [], ◌∷◌, ◌++◌, true, false, codes, length, replicate, append-nil, refl, sym, rules, ◌∙◌, arith}
use Rattle.std.proofs.lemmas.Fmt.{decimal_digit}
use Rattle.fz_bits.specs.Bits.{number_bits, bit, bits_value, bytes_of}
use Rattle.fz_card.specs.Layout.{padded}
use Rattle.fz_card.specs.Made.{text_card_bytes}
use Rattle.fz_card.specs.Reading.{integer_of}
use Rattle.fz_grid.specs.Grid.{tile}
use Rattle.fz_block.specs.Cards.{end_among}
use Rattle.fz_block.specs.Facts.{facts_of}
use Rattle.fz_block.specs.Hdus.{IsHeader, AreHdusOf, cards_of, data_len_of, header_bytes}
use Rattle.fz_block.specs.Header.{whole_blocks_of}
use Rattle.fz_head.specs.Packable.{is_packable}
use Rattle.fz_head.specs.PackedHeader.{number_card, word_card, numbered_number_card, numbered_word_card, packed_header, descriptor_form}
use Rattle.fz_head.specs.Planned.{pack_plan_of}
use Rattle.fz_files.specs.HandMade.{card_of, block_of}
use Rattle.fz_files.specs.Packed.{IsPackedFile, array_of, heap_of, packed_data, packed_file, packed_from, packed_hdu, packed_image, packed_table, rows_from, table_header, tile_codes}
use Rattle.fz_files.specs.RiceFile.{small_cards, small_hdu, small_file, rice_options, rice_plan, rice_tiles, rice_rows, rice_heap, rice_cards, rice_file}
use Rattle.fz_files.proofs.WorkedCards.{value_is, digit_name, numbered_is, decimal_32, empty_is, made_xtension, made_bitpix, made_naxis, made_naxis1, made_naxis2, made_gcount, made_tfields, made_ttype1, made_ttype2, made_zimage, made_ztile1, made_ztile2, packed_simple, packed_bitpix, packed_naxis, packed_axis_1, packed_axis_2}

pub tiles_are : tile_codes rice_plan (array_of rice_plan small_hdu.payload) ≡ rice_tiles
unfolding tile_codes tile number_bits bit bits_value bytes_of
tiles_are = refl

pub rows_are : rows_from rice_plan 0 rice_tiles ≡ rice_rows
unfolding rows_from
rows_are = refl

pub heap_is : heap_of rice_tiles ≡ rice_heap
unfolding heap_of
heap_is = refl

pub is_planned : pack_plan_of rice_options (facts_of 0 0 small_hdu.header) ≡ rice_plan
unfolding pack_plan_of integer_of
is_planned = refl

packable : is_packable (facts_of 0 0 small_hdu.header) ≡ true
unfolding is_packable integer_of
packable = refl

cards_before : cards_of small_hdu.header ≡ small_cards
unfolding end_among
cards_before = refl

-- the image is alone in its file
header_is : IsHeader small_hdu.header
unfolding end_among
header_is = record { before = 0; blocks = refl; none = refl; has = search rules }

payload_is : length small_hdu.payload ≡ whole_blocks_of (data_len_of 0 small_hdu.header)
unfolding integer_of
payload_is = refl

pub is_alone : AreHdusOf small_file (small_hdu ∷ [])
is_alone = record { parts = refl; each = (record { header = header_is; payload = payload_is }, tt) }

made_pcount : number_card (codes "PCOUNT") 8 ≡ card_of (codes "PCOUNT  =                    8")
made_pcount = value_is (padded (codes "PCOUNT")) (codes "8") 8 (decimal_digit 8 (omega arith))

made_tform1 : numbered_word_card (codes "TFORM") 1 (descriptor_form false (codes "B") 4) ≡ card_of (codes "TFORM1  = '1PB(4)  '")
unfolding text_card_bytes
made_tform1 = rw (digit_name (codes "TFORM") 1 (omega arith), decimal_digit 4 (omega arith)) refl

made_tform2 : numbered_word_card (codes "TFORM") 2 (descriptor_form false (codes "I") 0) ≡ card_of (codes "TFORM2  = '1PI(0)  '")
unfolding text_card_bytes
made_tform2 = rw (digit_name (codes "TFORM") 2 (omega arith), decimal_digit 0 (omega arith)) refl

made_zcmptype : word_card (codes "ZCMPTYPE") (codes "RICE_1") ≡ card_of (codes "ZCMPTYPE= 'RICE_1  '")
unfolding text_card_bytes
made_zcmptype = refl

made_zname1 : numbered_word_card (codes "ZNAME") 1 (codes "BLOCKSIZE") ≡ card_of (codes "ZNAME1  = 'BLOCKSIZE'")
unfolding text_card_bytes
made_zname1 = rw (digit_name (codes "ZNAME") 1 (omega arith)) refl

made_zval1 : numbered_number_card (codes "ZVAL") 1 32 ≡ card_of (codes "ZVAL1   =                   32")
made_zval1 = numbered_is (codes "ZVAL") (codes "32") 1 32 (omega arith) decimal_32

made_zname2 : numbered_word_card (codes "ZNAME") 2 (codes "BYTEPIX") ≡ card_of (codes "ZNAME2  = 'BYTEPIX '")
unfolding text_card_bytes
made_zname2 = rw (digit_name (codes "ZNAME") 2 (omega arith)) refl

made_zval2 : numbered_number_card (codes "ZVAL") 2 2 ≡ card_of (codes "ZVAL2   =                    2")
made_zval2 = numbered_is (codes "ZVAL") (codes "2") 2 2 (omega arith) (decimal_digit 2 (omega arith))

pub cards_are : table_header rice_plan small_cards rice_tiles ≡ rice_cards
unfolding packed_header heap_of
cards_are = λ i.
    made_xtension i ∷ made_bitpix i ∷ made_naxis i ∷ made_naxis1 i ∷ made_naxis2 i ∷ made_pcount i ∷ made_gcount i ∷ made_tfields i
    ∷ made_ttype1 i ∷ made_tform1 i ∷ made_ttype2 i ∷ made_tform2 i ∷ made_zimage i ∷ made_zcmptype i ∷ made_ztile1 i ∷ made_ztile2 i
    ∷ made_zname1 i ∷ made_zval1 i ∷ made_zname2 i ∷ made_zval2 i
    ∷ packed_simple i ∷ packed_bitpix i ∷ packed_naxis i ∷ packed_axis_1 i ∷ packed_axis_2 i ∷ []

data_are : packed_data rice_plan rice_tiles ≡ rice_rows ++ (rice_heap ++ replicate 2840 0)
unfolding rows_from heap_of
data_are = refl

table_is : packed_table false rice_plan small_cards rice_tiles ≡ block_of rice_cards ++ (rice_rows ++ (rice_heap ++ replicate 2840 0))
unfolding packed_table
table_is = λ i. header_bytes (cards_are i) ++ data_are i

image_is : packed_image false rice_plan small_hdu ≡ block_of rice_cards ++ (rice_rows ++ (rice_heap ++ replicate 2840 0))
image_is = (λ i. packed_table false rice_plan (cards_before i) (tiles_are i)) ∙ table_is

hdu_is : packed_hdu rice_options 0 small_hdu ≡ rice_file
hdu_is = rw (packable, is_planned) (λ i. header_bytes (empty_is i) ++ image_is i)

file_is : packed_file rice_options (small_hdu ∷ []) ≡ rice_file
unfolding packed_from
file_is = append-nil (packed_hdu rice_options 0 small_hdu) ∙ hdu_is

pub is_packed : IsPackedFile rice_options small_file rice_file
is_packed = record { hdus = small_hdu ∷ []; parts = is_alone; packed = sym file_is }
