-- The mask with a line list by the definitions.
use Rattle.std.proofs.Common.{◌≡◌, [], ◌∷◌, ◌++◌, true, false, codes, length, append-nil, refl, sym, rules, ◌∙◌, arith}
use Rattle.std.proofs.lemmas.Fmt.{decimal_digit}
use Rattle.fz_plio.specs.Producer.{all_run_instructions, body_words, can_hold_all, high_change, last_zeros, line_list, pieces, run_instructions, runs, zeros_and_highs}
use Rattle.fz_plio.specs.Words.{word_bytes}
use Rattle.fz_card.specs.Layout.{padded}
use Rattle.fz_card.specs.Made.{text_card_bytes}
use Rattle.fz_card.specs.Naming.{number_behind, packed_name}
use Rattle.fz_card.specs.Reading.{integer_of}
use Rattle.fz_card.specs.Tables.{renamings}
use Rattle.fz_grid.specs.Grid.{tile}
use Rattle.fz_block.specs.Cards.{end_among}
use Rattle.fz_block.specs.Facts.{facts_of}
use Rattle.fz_block.specs.Hdus.{IsHeader, AreHdusOf, cards_of, data_len_of, header_bytes}
use Rattle.fz_block.specs.Header.{whole_blocks_of}
use Rattle.fz_head.specs.Packable.{is_packable}
use Rattle.fz_head.specs.PackedHeader.{number_card, word_card, numbered_number_card, numbered_word_card, packed_card, packed_header, descriptor_form}
use Rattle.fz_head.specs.Planned.{pack_plan_of}
use Rattle.fz_files.specs.HandMade.{card_of, block_of}
use Rattle.fz_files.specs.Packed.{IsPackedFile, array_of, heap_of, packed_data, packed_file, packed_from, packed_hdu, packed_image, packed_table, rows_from, table_header, tile_codes}
use Rattle.fz_files.specs.PlioFile.{mask_cards, mask_hdu, mask_file, plio_options, plio_plan, plio_tiles, plio_rows, plio_heap, plio_data, plio_cards, plio_file}
use Rattle.fz_files.proofs.WorkedCards.{value_is, digit_name, numbered_is, decimal_16, decimal_32, empty_is, made_xtension, made_bitpix, made_naxis, made_naxis1, made_gcount, made_tfields, made_ttype1, made_ttype2, made_zimage, packed_simple, packed_bitpix}

pub tiles_are : tile_codes plio_plan (array_of plio_plan mask_hdu.payload) ≡ plio_tiles
unfolding tile_codes tile line_list can_hold_all runs last_zeros pieces high_change zeros_and_highs run_instructions all_run_instructions body_words word_bytes
tiles_are = refl

pub rows_are : rows_from plio_plan 0 plio_tiles ≡ plio_rows
unfolding rows_from
rows_are = refl

pub heap_is : heap_of plio_tiles ≡ plio_heap
unfolding heap_of
heap_is = refl

pub is_planned : pack_plan_of plio_options (facts_of 0 0 mask_hdu.header) ≡ plio_plan
unfolding pack_plan_of integer_of
is_planned = refl

packable : is_packable (facts_of 0 0 mask_hdu.header) ≡ true
unfolding is_packable integer_of
packable = refl

cards_before : cards_of mask_hdu.header ≡ mask_cards
unfolding end_among
cards_before = refl

-- the image is alone in its file
header_is : IsHeader mask_hdu.header
unfolding end_among
header_is = record { before = 0; blocks = refl; none = refl; has = search rules }

payload_is : length mask_hdu.payload ≡ whole_blocks_of (data_len_of 0 mask_hdu.header)
unfolding integer_of
payload_is = refl

is_alone : AreHdusOf mask_file (mask_hdu ∷ [])
is_alone = record { parts = refl; each = (record { header = header_is; payload = payload_is }, tt) }

-- the cards of the table
made_naxis2 : numbered_number_card (codes "NAXIS") 2 1 ≡ card_of (codes "NAXIS2  =                    1")
made_naxis2 = numbered_is (codes "NAXIS") (codes "1") 2 1 (omega arith) (decimal_digit 1 (omega arith))

made_pcount : number_card (codes "PCOUNT") 32 ≡ card_of (codes "PCOUNT  =                   32")
made_pcount = value_is (padded (codes "PCOUNT")) (codes "32") 32 decimal_32

made_tform1 : numbered_word_card (codes "TFORM") 1 (descriptor_form false (codes "I") 16) ≡ card_of (codes "TFORM1  = '1PI(16) '")
unfolding text_card_bytes
made_tform1 = rw (digit_name (codes "TFORM") 1 (omega arith), decimal_16) refl

made_tform2 : numbered_word_card (codes "TFORM") 2 (descriptor_form false (codes "I") 0) ≡ card_of (codes "TFORM2  = '1PI(0)  '")
unfolding text_card_bytes
made_tform2 = rw (digit_name (codes "TFORM") 2 (omega arith), decimal_digit 0 (omega arith)) refl

made_zcmptype : word_card (codes "ZCMPTYPE") (codes "PLIO_1") ≡ card_of (codes "ZCMPTYPE= 'PLIO_1  '")
unfolding text_card_bytes
made_zcmptype = refl

made_ztile1 : numbered_number_card (codes "ZTILE") 1 32 ≡ card_of (codes "ZTILE1  =                   32")
made_ztile1 = numbered_is (codes "ZTILE") (codes "32") 1 32 (omega arith) decimal_32

packed_naxis : packed_card (card_of (codes "NAXIS   =                    1")) ≡ card_of (codes "ZNAXIS  =                    1")
unfolding packed_name renamings
packed_naxis = refl

packed_axis : packed_card (card_of (codes "NAXIS1  =                   32")) ≡ card_of (codes "ZNAXIS1 =                   32")
unfolding packed_name renamings number_behind
packed_axis = rw (digit_name (codes "NAXIS") 1 (omega arith), digit_name (codes "ZNAXIS") 1 (omega arith)) refl

pub cards_are : table_header plio_plan mask_cards plio_tiles ≡ plio_cards
unfolding packed_header heap_of
cards_are = λ i.
    made_xtension i ∷ made_bitpix i ∷ made_naxis i ∷ made_naxis1 i ∷ made_naxis2 i ∷ made_pcount i ∷ made_gcount i ∷ made_tfields i
    ∷ made_ttype1 i ∷ made_tform1 i ∷ made_ttype2 i ∷ made_tform2 i ∷ made_zimage i ∷ made_zcmptype i ∷ made_ztile1 i
    ∷ packed_simple i ∷ packed_bitpix i ∷ packed_naxis i ∷ packed_axis i ∷ []

data_are : packed_data plio_plan plio_tiles ≡ plio_data
unfolding rows_from heap_of
data_are = refl

table_is : packed_table false plio_plan mask_cards plio_tiles ≡ block_of plio_cards ++ plio_data
unfolding packed_table
table_is = λ i. header_bytes (cards_are i) ++ data_are i

image_is : packed_image false plio_plan mask_hdu ≡ block_of plio_cards ++ plio_data
image_is = (λ i. packed_table false plio_plan (cards_before i) (tiles_are i)) ∙ table_is

hdu_is : packed_hdu plio_options 0 mask_hdu ≡ plio_file
hdu_is = rw (packable, is_planned) (λ i. header_bytes (empty_is i) ++ image_is i)

file_is : packed_file plio_options (mask_hdu ∷ []) ≡ plio_file
unfolding packed_from
file_is = append-nil (packed_hdu plio_options 0 mask_hdu) ∙ hdu_is

pub is_packed : IsPackedFile plio_options mask_file plio_file
is_packed = record { hdus = mask_hdu ∷ []; parts = is_alone; packed = sym file_is }
