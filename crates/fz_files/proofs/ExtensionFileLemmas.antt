-- The file with an extension by the definitions.
use Rattle.std.proofs.Common.{◌≡◌, [], ◌∷◌, ◌++◌, true, false, codes, length, append-nil, refl, sym, rules, ◌∙◌, arith}
use Rattle.std.proofs.lemmas.Fmt.{decimal_digit}
use Rattle.fz_card.specs.Layout.{padded}
use Rattle.fz_card.specs.Made.{text_card_bytes}
use Rattle.fz_card.specs.Naming.{packed_name}
use Rattle.fz_card.specs.Quoted.{quoted}
use Rattle.fz_card.specs.Reading.{integer_of, text_of}
use Rattle.fz_card.specs.Tables.{renamings}
use Rattle.fz_grid.specs.Grid.{tile}
use Rattle.fz_block.specs.Cards.{end_among}
use Rattle.fz_block.specs.Facts.{facts_of}
use Rattle.fz_block.specs.Hdus.{IsHeader, AreHdusOf, cards_of, data_len_of, header_bytes}
use Rattle.fz_block.specs.Header.{whole_blocks_of}
use Rattle.fz_head.specs.Packable.{is_packable}
use Rattle.fz_head.specs.PackedHeader.{number_card, numbered_word_card, packed_card, packed_header, descriptor_form}
use Rattle.fz_head.specs.Planned.{pack_plan_of}
use Rattle.fz_files.specs.ExtensionFile.{bare_hdu, image_cards, row_pixels, image_hdu, extension_file, bare_options, image_plan, image_tiles, image_rows, image_data, image_table_cards, packed_extension}
use Rattle.fz_files.specs.HandMade.{card_of, block_of}
use Rattle.fz_files.specs.Packed.{IsPackedFile, array_of, heap_of, packed_data, packed_file, packed_from, packed_hdu, packed_image, packed_table, rows_from, table_header, tile_codes}
use Rattle.fz_files.proofs.WorkedCards.{value_is, digit_name, decimal_16, made_xtension, made_bitpix, made_naxis, made_naxis1, made_gcount, made_tfields, made_ttype1, made_no_codes, made_ttype2, made_zimage, made_nocompress, made_naxis2, made_ztile1, made_ztile2, packed_bitpix, packed_naxis, packed_axis_1, packed_axis_2}

pub tiles_are : tile_codes image_plan (array_of image_plan image_hdu.payload) ≡ image_tiles
unfolding tile_codes tile
tiles_are = refl

pub rows_are : rows_from image_plan 0 image_tiles ≡ image_rows
unfolding rows_from
rows_are = refl

pub heap_is : heap_of image_tiles ≡ row_pixels ++ row_pixels
unfolding heap_of
heap_is = refl

pub is_planned : pack_plan_of bare_options (facts_of 1 0 image_hdu.header) ≡ image_plan
unfolding pack_plan_of integer_of text_of quoted
is_planned = refl

copied : is_packable (facts_of 0 0 bare_hdu.header) ≡ false
unfolding is_packable integer_of
copied = refl

packable : is_packable (facts_of 1 0 image_hdu.header) ≡ true
unfolding is_packable integer_of text_of quoted
packable = refl

cards_before : cards_of image_hdu.header ≡ image_cards
unfolding end_among
cards_before = refl

-- both HDUs are the file
bare_header : IsHeader bare_hdu.header
unfolding end_among
bare_header = record { before = 0; blocks = refl; none = refl; has = search rules }

bare_payload : length bare_hdu.payload ≡ whole_blocks_of (data_len_of 0 bare_hdu.header)
unfolding integer_of
bare_payload = refl

image_header : IsHeader image_hdu.header
unfolding end_among
image_header = record { before = 0; blocks = refl; none = refl; has = search rules }

image_payload : length image_hdu.payload ≡ whole_blocks_of (data_len_of 1 image_hdu.header)
unfolding integer_of
image_payload = refl

are_parts : AreHdusOf extension_file (bare_hdu ∷ image_hdu ∷ [])
are_parts = record {
  parts = refl;
  each = (record { header = bare_header; payload = bare_payload }, (record { header = image_header; payload = image_payload }, tt));
}

-- the cards of the table
made_pcount : number_card (codes "PCOUNT") 16 ≡ card_of (codes "PCOUNT  =                   16")
made_pcount = value_is (padded (codes "PCOUNT")) (codes "16") 16 decimal_16

made_tform2 : numbered_word_card (codes "TFORM") 2 (descriptor_form false (codes "I") 4) ≡ card_of (codes "TFORM2  = '1PI(4)  '")
unfolding text_card_bytes
made_tform2 = rw (digit_name (codes "TFORM") 2 (omega arith), decimal_digit 4 (omega arith)) refl

packed_xtension : packed_card (card_of (codes "XTENSION= 'IMAGE   '")) ≡ card_of (codes "ZTENSION= 'IMAGE   '")
unfolding packed_name renamings
packed_xtension = refl

packed_pcount : packed_card (card_of (codes "PCOUNT  =                    0")) ≡ card_of (codes "ZPCOUNT =                    0")
unfolding packed_name renamings
packed_pcount = refl

packed_gcount : packed_card (card_of (codes "GCOUNT  =                    1")) ≡ card_of (codes "ZGCOUNT =                    1")
unfolding packed_name renamings
packed_gcount = refl

pub cards_are : table_header image_plan image_cards image_tiles ≡ image_table_cards
unfolding packed_header heap_of
cards_are = λ i.
    made_xtension i ∷ made_bitpix i ∷ made_naxis i ∷ made_naxis1 i ∷ made_naxis2 i ∷ made_pcount i ∷ made_gcount i ∷ made_tfields i
    ∷ made_ttype1 i ∷ made_no_codes i ∷ made_ttype2 i ∷ made_tform2 i ∷ made_zimage i ∷ made_nocompress i ∷ made_ztile1 i ∷ made_ztile2 i
    ∷ packed_xtension i ∷ packed_bitpix i ∷ packed_naxis i ∷ packed_axis_1 i ∷ packed_axis_2 i ∷ packed_pcount i ∷ packed_gcount i ∷ []

data_are : packed_data image_plan image_tiles ≡ image_data
unfolding rows_from heap_of
data_are = refl

table_is : packed_table false image_plan image_cards image_tiles ≡ block_of image_table_cards ++ image_data
unfolding packed_table
table_is = λ i. header_bytes (cards_are i) ++ data_are i

image_is : packed_image false image_plan image_hdu ≡ block_of image_table_cards ++ image_data
image_is = (λ i. packed_table false image_plan (cards_before i) (tiles_are i)) ∙ table_is

-- the primary stays, and nothing stands before the table
primary_is : packed_hdu bare_options 0 bare_hdu ≡ bare_hdu.header
primary_is = rw copied (append-nil bare_hdu.header)

hdu_is : packed_hdu bare_options 1 image_hdu ≡ block_of image_table_cards ++ image_data
hdu_is = rw (packable, is_planned) image_is

file_is : packed_file bare_options (bare_hdu ∷ image_hdu ∷ []) ≡ packed_extension
unfolding packed_from
file_is = λ i. primary_is i ++ (append-nil (packed_hdu bare_options 1 image_hdu) ∙ hdu_is) i

pub is_packed : IsPackedFile bare_options extension_file packed_extension
is_packed = record { hdus = bare_hdu ∷ image_hdu ∷ []; parts = are_parts; packed = sym file_is }
