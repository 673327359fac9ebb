-- Six rows of `drill`, by computing.
use Rattle.std.specs.Fmt.{digits}
use Rattle.std.specs.Prelude.{None}
use Rattle.std.proofs.Common.{◌≡◌, ℕ, pos, ◌+◌, ◌*◌, drop, true, false, Bool, List, [], ◌∷◌, ◌++◌, codes, decimal, length, append-nil, if◌then◌else◌, refl, ap, ◌∙◌, arith}
use Rattle.std.proofs.lemmas.List.{length-append}
use Rattle.fz_bits.specs.Bits.{bit, bits_value, bytes_of, number_bits}
use Rattle.fz_plio.specs.Producer.{all_run_instructions, body_words, can_hold_all, high_change, last_zeros, line_list, pieces, run_instructions, runs, zeros_and_highs}
use Rattle.fz_plio.specs.Words.{word_bytes}
use Rattle.fz_card.specs.Made.{int_card_bytes, logical_card_bytes, numbered_name, text_card_bytes}
use Rattle.fz_card.specs.Naming.{number_behind, packed_name}
use Rattle.fz_card.specs.Reading.{integer_of}
use Rattle.fz_card.specs.Tables.{renamings}
use Rattle.fz_block.specs.Cards.{end_among}
use Rattle.fz_block.specs.Facts.{facts_of}
use Rattle.fz_block.specs.Hdus.{cards_of, hdu_bytes, header_bytes}
use Rattle.fz_block.specs.declared.header.Header.{Header}
use Rattle.fz_block.specs.declared.header.Sort.TheVariants.{Primary}
use Rattle.fz_grid.specs.Grid.{tile}
use Rattle.fz_head.specs.EmptyPrimary.{empty_primary}
use Rattle.fz_head.specs.Packable.{is_packable}
use Rattle.fz_head.specs.PackedHeader.{packed_header}
use Rattle.fz_head.specs.Planned.{pack_plan_of}
use Rattle.fz_head.specs.declared.options.CodecWord.{CodecWord}
use Rattle.fz_head.specs.declared.options.CodecWord.TheVariants as word
use Rattle.fz_head.specs.declared.plan.Plan.{Plan}
use Rattle.fz_files.specs.Drill.{drill_cards, drill_file, drill_hdu, drill_line, drill_lines, drill_options, drill_packed, drill_pixels}
use Rattle.fz_files.specs.DrillRows.{row_32, six_codec, six_codes, six_lines, six_plan}
use Rattle.fz_files.specs.Packed.{array_of, heap_of, packed_data, packed_from, packed_hdu, packed_image, packed_table, rows_from, table_header, tile_codes}

-- ---- the file

plain_len : length (drill_file 6) ≡ 8640
unfolding drill_file int_card_bytes logical_card_bytes numbered_name digits
plain_len = refl

abbrev facts : Header
facts = record {
  hdu = 0;
  start = 0;
  cards = 5;
  blocks = 1;
  sort = Primary;
  bitpix = pos 16;
  axes = record { n = 2; len = 256 ∷ 6 ∷ 0 ∷ 0 ∷ 0 ∷ 0 ∷ 0 ∷ 0 ∷ 0 ∷ [] };
  pcount = 0;
  gcount = 1;
  data_len = 3072;
}

facts_are : facts_of 0 0 (drill_hdu 6).header ≡ facts
unfolding end_among integer_of int_card_bytes logical_card_bytes numbered_name digits
facts_are = refl

packable : is_packable facts ≡ true
unfolding is_packable
packable = refl

cards_are : cards_of (drill_hdu 6).header ≡ drill_cards 6
unfolding end_among int_card_bytes logical_card_bytes numbered_name digits
cards_are = refl

planned : (codec : CodecWord) → pack_plan_of (drill_options codec) facts ≡ six_plan (six_codec codec)
unfolding pack_plan_of
planned word.Rice = refl
planned word.Plio = refl
planned word.None = refl

-- ---- what is written for the rows

abbrev plan : CodecWord → Plan
plan codec = six_plan (six_codec codec)

rice_codes : tile_codes (plan word.Rice) (array_of (plan word.Rice) (drill_hdu 6).payload) ≡ six_codes word.Rice
unfolding tile_codes tile number_bits bit bits_value bytes_of
rice_codes = refl

list_codes : tile_codes (plan word.Plio) (array_of (plan word.Plio) (drill_hdu 6).payload) ≡ six_codes word.Plio
unfolding tile_codes tile line_list can_hold_all runs last_zeros pieces high_change zeros_and_highs run_instructions all_run_instructions body_words word_bytes
list_codes = refl

stored_codes : tile_codes (plan word.None) (array_of (plan word.None) (drill_hdu 6).payload) ≡ six_codes word.None
unfolding tile_codes tile
stored_codes = refl

pub codes_are : (codec : CodecWord) → tile_codes (plan codec) (array_of (plan codec) (drill_hdu 6).payload) ≡ six_codes codec
codes_are word.Rice = rice_codes
codes_are word.Plio = list_codes
codes_are word.None = stored_codes

-- ---- the packed files

header_len : (codec : CodecWord) → length (header_bytes (table_header (plan codec) (drill_cards 6) (six_codes codec))) ≡ 2880
unfolding packed_header heap_of int_card_bytes logical_card_bytes text_card_bytes numbered_name packed_name renamings number_behind digits
header_len word.Rice = refl
header_len word.Plio = refl
header_len word.None = refl

empty_len : length (header_bytes empty_primary) ≡ 2880
unfolding int_card_bytes logical_card_bytes digits
empty_len = refl

abbrev data_len : CodecWord → ℕ
data_len word.Rice = 2880
data_len word.Plio = 2880
data_len word.None = 5760

data_is : (codec : CodecWord) → length (packed_data (plan codec) (six_codes codec)) ≡ data_len codec
unfolding rows_from heap_of
data_is word.Rice = refl
data_is word.Plio = refl
data_is word.None = refl

module _ (codec : CodecWord) where
  abbrev p : Plan
  p = plan codec

  table_is : packed_image false p (drill_hdu 6) ≡ header_bytes (table_header p (drill_cards 6) (six_codes codec)) ++ packed_data p (six_codes codec)
  unfolding packed_table
  table_is = λ i. packed_table false p (cards_are i) (codes_are codec i)

  hdu_is : packed_hdu (drill_options codec) 0 (drill_hdu 6) ≡ header_bytes empty_primary ++ (header_bytes (table_header p (drill_cards 6) (six_codes codec)) ++ packed_data p (six_codes codec))
  hdu_is =
      (λ i. if is_packable (facts_are i) then header_bytes empty_primary ++ packed_image false (pack_plan_of (drill_options codec) (facts_are i)) (drill_hdu 6) else hdu_bytes (drill_hdu 6))
      ∙ (ap (λ (b : Bool). if b then header_bytes empty_primary ++ packed_image false (pack_plan_of (drill_options codec) facts) (drill_hdu 6) else hdu_bytes (drill_hdu 6)) packable
      ∙ (ap (λ (q : Plan). header_bytes empty_primary ++ packed_image false q (drill_hdu 6)) (planned codec)
      ∙ ap (λ l. header_bytes empty_primary ++ l) table_is))

  file_is : drill_packed 6 codec ≡ packed_hdu (drill_options codec) 0 (drill_hdu 6)
  unfolding packed_from
  file_is = append-nil (packed_hdu (drill_options codec) 0 (drill_hdu 6))

  packed_len : length (drill_packed 6 codec) ≡ 5760 + data_len codec
  packed_len =
      let table : List ℕ = header_bytes (table_header p (drill_cards 6) (six_codes codec)) in
      let rest : List ℕ = packed_data p (six_codes codec) in
      let whole : length (drill_packed 6 codec) ≡ length (header_bytes empty_primary ++ (table ++ rest)) = ap length (file_is ∙ hdu_is) in
      let first : length (header_bytes empty_primary ++ (table ++ rest)) ≡ length (header_bytes empty_primary) + length (table ++ rest) = length-append (header_bytes empty_primary) (table ++ rest) in
      let second : length (table ++ rest) ≡ length table + length rest = length-append table rest in
      omega (arith, whole, first, second, empty_len, header_len codec, data_is codec)

-- ---- the lines

number_6 : decimal 6 ≡ codes "6"
unfolding digits
number_6 = refl

number_8640 : decimal 8640 ≡ codes "8640"
unfolding digits
number_8640 = refl

number_11520 : decimal 11520 ≡ codes "11520"
unfolding digits
number_11520 = refl

line_is : (codec : CodecWord) (name number : List ℕ) → decimal (5760 + data_len codec) ≡ number → drill_line 6 name codec ≡ name ++ codes " packed " ++ number ++ codes " unpack same cut same\n"
line_is codec name number is = ap (λ n. name ++ codes " packed " ++ n ++ codes " unpack same cut same\n") (ap decimal (packed_len codec) ∙ is)

pub lines_are : drill_lines 6 ≡ six_lines
unfolding drill_lines
lines_are = λ i.
    codes "drill " ++ number_6 i ++ codes " plain " ++ (ap decimal plain_len ∙ number_8640) i ++ codes "\n"
    ++ (line_is word.Rice (codes "rice") (codes "8640") number_8640 i ++ (line_is word.Plio (codes "plio") (codes "8640") number_8640 i ++ line_is word.None (codes "none") (codes "11520") number_11520 i))

-- ---- a row with a higher number

pub later_is : drop (256 * 32) (drill_pixels 33) ≡ row_32
later_is = refl
