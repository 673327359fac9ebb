-- The worked file in which one byte of fill is not 0.
use Rattle.std.specs.Prelude.{None}
use Rattle.std.proofs.Common.{◌≡◌, ℕ, ◌+◌, ◌&&◌, true, false, ℤ, pos, List, [], ◌∷◌, ◌++◌, length, map, replicate, Some, Result, Ok, Err, if◌then◌else◌, slice_index, append-nil, refl, sym, subst, ◌∙◌, ap, arith, rules}
use Rattle.std.specs.Fmt.{digits}
use Rattle.std.specs.List.{flat_map, range_with_len}
use Rattle.fz_base.specs.declared.fault.Fault.{Fault}
use Rattle.fz_card.specs.Made.{numbered_name}
use Rattle.fz_card.specs.Naming.{is_dropped, number_behind, plain_name}
use Rattle.fz_card.specs.Quoted.{quoted}
use Rattle.fz_card.specs.Reading.{integer_of, logical_of, text_of}
use Rattle.fz_card.specs.Tables.{own_names, packed_names, renamings}
use Rattle.fz_block.specs.Cards.{end_among, first_among}
use Rattle.fz_block.specs.Facts.{facts_of}
use Rattle.fz_block.specs.Hdus.{AreHdusOf, Hdu, IsHeader, cards_of, data_len_of, hdu_bytes}
use Rattle.fz_block.specs.Header.{whole_blocks_of}
use Rattle.fz_block.specs.Walk.{hdu_of}
use Rattle.fz_block.specs.declared.header.Header.{Header}
use Rattle.fz_grid.specs.Arrays.{NumberArray}
use Rattle.fz_grid.specs.Region.{lengths_of}
use Rattle.fz_grid.specs.Whole.{joined, number_in, pixel_at, tile_at}
use Rattle.fz_table.specs.Columns.{column_called, columns_len, first_named}
use Rattle.fz_table.specs.Forms.{elements_len, form_in}
use Rattle.fz_table.specs.Records.{record_at, record_bytes, record_of}
use Rattle.fz_table.specs.Tables.{table_in}
use Rattle.fz_table.specs.declared.record.Record.{Record}
use Rattle.fz_table.specs.declared.table.Table.{Table}
use Rattle.fz_head.specs.Packable.{is_packed}
use Rattle.fz_head.specs.PackedPlan.{plan_of_cards}
use Rattle.fz_head.specs.PlainHeader.{plain_header, was_primary}
use Rattle.fz_head.specs.declared.plan.Plan.{Plan}
use Rattle.fz_files.specs.CutFile.{table_facts}
use Rattle.fz_files.specs.FirstFault.{image_row}
use Rattle.fz_files.specs.HandMade.{block_of}
use Rattle.fz_files.specs.Packed.{IsPackedFile, pixel_bits, tiles_in}
use Rattle.fz_files.specs.PlainFile.{grid_file, plain_cards, plain_file, plain_heap, plain_options, plain_plan, plain_rows}
use Rattle.fz_files.specs.Restored.{image_bytes, image_table, is_image, is_packed_primary, pixels_of, place_in, plan_in, standing, tile_of}
use Rattle.fz_files.specs.Walks.{headers_for}
use Rattle.fz_files.specs.declared.job.Job.TheVariants.{Unpack}
use Rattle.fz_files.specs.RowPixels.{for_row}
use Rattle.fz_files.specs.RecordPixels.{record_pixels}
use Rattle.fz_files.specs.RestoredFile.{image_array, pixels_or_none, restored, restored_hdu, tile_pixels}
use Rattle.fz_laws.specs.RoundTrip.{HasOnePackedFile, StandsForNoOther}
use Rattle.fz_strict.specs.FoundOptions.{block_of as block_found, codec_found, found_options, has_sums, images_in, options_of, sums_in, tile_found, word_of}
use Rattle.fz_strict.specs.Laws.{FoundOptionsDo}
use Rattle.fz_strict.specs.Strict.{IsStrict, IsStrictBy}
use Rattle.fz_strict.specs.Worked.{filled_file}
use Rattle.fz_strict.proofs.Images.{first_plain}
use Rattle.fz_strict.specs.Taken.{WalkLaws}
use Rattle.fz_strict.proofs.WorkedHeaders.{PassingWalk, headers_in, images_behind}
use Rattle.fz_strict.proofs.WorkedSums.{empty_hdu, empty_header, empty_payload, found_by, second_same}

-- ---- the HDUs

abbrev pub fill_table : Hdu
fill_table = record { header = block_of plain_cards; payload = plain_rows ++ (plain_heap ++ (replicate 2768 0 ++ 1 ∷ [])) }

table_header : IsHeader (block_of plain_cards)
unfolding end_among
table_header = record { before = 0; blocks = refl; none = refl; has = search rules }

table_payload : length fill_table.payload ≡ whole_blocks_of (data_len_of 1 (block_of plain_cards))
unfolding integer_of
table_payload = refl

fill_hdus : AreHdusOf filled_file (empty_hdu ∷ fill_table ∷ [])
fill_hdus = record {
  parts = refl;
  each =
      (record { header = empty_header; payload = empty_payload }, (record { header = table_header; payload = table_payload }, tt));
}

pub facts_are : facts_of 1 (0 + length (hdu_bytes empty_hdu)) (block_of plain_cards) ≡ table_facts
unfolding end_among integer_of text_of quoted
facts_are = refl

-- ---- the table

pub packed_is : is_packed (block_of plain_cards) table_facts ≡ true
unfolding is_packed end_among logical_of
packed_is = refl

pub cards_are : cards_of (block_of plain_cards) ≡ plain_cards
unfolding end_among
cards_are = refl

plan_said : plan_of_cards plain_cards ≡ plain_plan
unfolding plan_of_cards integer_of text_of quoted number_behind numbered_name digits
plan_said = refl

abbrev pub plain_table : Table
plain_table = record {
  row_bytes = 16;
  rows = 6;
  rows_at = 5760;
  heap_at = 5856;
  heap_len = 15;
  coded = Some (record { at = 0; wide = false; unit = 1 });
  stored = Some (record { at = 8; wide = false; unit = 1 });
  gzip = None;
}

pub table_said : table_in (block_of plain_cards) table_facts ≡ plain_table
unfolding first_among first_named columns_len column_called elements_len form_in integer_of text_of quoted numbered_name digits end_among
table_said = refl

-- ---- the image

abbrev grid_array : NumberArray
grid_array = record {
  lengths = 5 ∷ 3 ∷ [];
  numbers =
      pos 1 ∷ pos 2 ∷ pos 3 ∷ pos 4 ∷ pos 5 ∷ pos 6 ∷ pos 7 ∷ pos 8 ∷ pos 9 ∷ pos 10 ∷ pos 11 ∷ pos 12 ∷ pos 13 ∷ pos 14 ∷ pos 15 ∷ [];
}

-- the pixels of a tile, by the plan and the table
abbrev pub pixels_by_record : Plan → ℕ → Result Record Fault → Result (List ℤ) Fault
pixels_by_record p t (Ok found) =
    for_row (image_row table_facts t)
    (record_pixels p.codec (pixel_bits p) (place_in found.column) found.total (pixels_of p t) (record_bytes filled_file found))
pixels_by_record p t (Err fault) = Err fault

abbrev pixels_by : Plan → Table → ℕ → List ℤ
pixels_by p table t = pixels_or_none (pixels_by_record p t (record_at filled_file 1 table t (tile_of p t)))

tile_is : (t : ℕ) → tile_pixels filled_file table_facts t ≡ pixels_by (plan_in filled_file table_facts) (image_table filled_file table_facts) t
tile_is t = refl

array_by : Plan → Table → NumberArray
array_by p table = joined (lengths_of p.shape) (lengths_of p.tile) (map (pixels_by p table) (range_with_len 0 (tiles_in p)))

same_tiles : (ts : List ℕ) → map (tile_pixels filled_file table_facts) ts
    ≡ map (pixels_by (plan_in filled_file table_facts) (image_table filled_file table_facts)) ts
same_tiles [] = refl
same_tiles (t ∷ ts) = λ i. tile_is t i ∷ same_tiles ts i

array_said : array_by plain_plan plain_table ≡ grid_array
unfolding array_by joined tile_at pixel_at number_in record_of
array_said = refl

bytes_are : image_bytes plain_plan plain_cards grid_array ≡ grid_file
unfolding plain_header plain_name is_dropped renamings packed_names own_names number_behind numbered_name digits integer_of text_of quoted
bytes_are = refl

was : was_primary plain_cards ≡ true
was = refl

module _ (here : hdu_of filled_file table_facts ≡ fill_table) where
  pub plan_is : plan_in filled_file table_facts ≡ plain_plan
  plan_is = ap (λ (x : Hdu). plan_of_cards (cards_of x.header)) here ∙ (ap plan_of_cards cards_are ∙ plan_said)

  pub table_is : image_table filled_file table_facts ≡ plain_table
  table_is = ap (λ (x : Hdu). table_in x.header table_facts) here ∙ table_said

  pub image_is : is_image filled_file table_facts ≡ true
  image_is = ap (λ (x : Hdu). is_packed x.header table_facts) here ∙ packed_is

  said_cards : cards_of (hdu_of filled_file table_facts).header ≡ plain_cards
  said_cards = ap (λ (x : Hdu). cards_of x.header) here ∙ cards_are

  array_is : image_array filled_file table_facts ≡ grid_array
  unfolding array_by
  array_is =
      let p : Plan = plan_in filled_file table_facts in
      ap (joined (lengths_of p.shape) (lengths_of p.tile)) (same_tiles (range_with_len 0 (tiles_in p)))
      ∙ ((λ i. array_by (plan_is i) (table_is i)) ∙ array_said)

  hdu_is : restored_hdu filled_file table_facts ≡ grid_file
  hdu_is =
      ap (λ b. if b then image_bytes (plan_in filled_file table_facts) (cards_of (hdu_of filled_file table_facts).header)
      (image_array filled_file table_facts) else hdu_bytes (hdu_of filled_file table_facts)) image_is
      ∙ ((λ i. image_bytes (plan_is i) (said_cards i) (array_is i)) ∙ bytes_are)

  primary_is : is_packed_primary filled_file table_facts ≡ true
  primary_is = (λ i. image_is i && was_primary (said_cards i)) ∙ was

-- ---- the file

pub restored_by : (e : Header) → headers_for Unpack filled_file ≡ e ∷ table_facts ∷ [] → hdu_of filled_file table_facts ≡ fill_table →
    restored filled_file ≡ grid_file
unfolding restored
restored_by e headers here =
    ap (λ hs. flat_map (restored_hdu filled_file) (standing filled_file hs)) headers
    ∙ (ap (λ b. flat_map (restored_hdu filled_file) (if b then table_facts ∷ [] else e ∷ table_facts ∷ [])) (primary_is here)
    ∙ (append-nil (restored_hdu filled_file table_facts) ∙ hdu_is here))

no_sums : has_sums plain_cards ≡ false
no_sums = refl

options_are : (file : List ℕ) (f : Header) → plan_in file f ≡ plain_plan → sums_in file f ≡ false → options_of file (f ∷ []) ≡ plain_options
options_are file f plan sums = λ i. record {
  codec = word_of (codec_found (plan i ∷ []));
  tile = tile_found (plan i ∷ []);
  block = block_found (codec_found (plan i ∷ []));
  sums = sums i;
  workers = 1;
}

last_byte : (bytes : List ℕ) → filled_file ≡ bytes → slice_index bytes 8639 ≡ 1
last_byte bytes same = sym (ap (λ l. slice_index l 8639) same)

plain_last : slice_index plain_file 8639 ≡ 0
plain_last = refl

pub filled_not_strict : WalkLaws → PassingWalk → FoundOptionsDo → StandsForNoOther → HasOnePackedFile → IsPackedFile plain_options grid_file plain_file →
    IsStrict filled_file → ⊥
filled_not_strict w passing found only one packed is =
    let headers = headers_in w passing filled_file (empty_hdu ∷ fill_table ∷ []) fill_hdus is.strict.stands.sound in
    let e : Header = facts_of 0 0 empty_hdu.header in
    let first : Header = facts_of 1 (0 + length (hdu_bytes empty_hdu)) (block_of plain_cards) in
    let there : hdu_of filled_file first ≡ fill_table = second_same (hdu_of filled_file e) (hdu_of filled_file first) empty_hdu fill_table [] [] headers.1 in
    let here : hdu_of filled_file table_facts ≡ fill_table = subst (λ f. hdu_of filled_file f ≡ fill_table) facts_are there in
    let these : headers_for Unpack filled_file ≡ e ∷ table_facts ∷ [] = headers.0 ∙ ap (λ f. e ∷ f ∷ []) facts_are in
    let images : images_in filled_file ≡ table_facts ∷ [] = images_behind filled_file e table_facts these (first_plain filled_file e refl) (image_is here) in
    let sums : sums_in filled_file table_facts ≡ false = ap has_sums (said_cards here) ∙ no_sums in
    let options : found_options filled_file ≡ plain_options =
    found_by filled_file table_facts images ∙ options_are filled_file table_facts (plan_is here) sums in
    let s : IsStrictBy plain_options filled_file = subst (λ o. IsStrictBy o filled_file) options ((found filled_file).0 is) in
    let same : s.restored ≡ grid_file = only filled_file s.restored s.stands ∙ restored_by e these here in
    let again : IsPackedFile plain_options grid_file filled_file = subst (λ f. IsPackedFile plain_options f filled_file) same s.packed in
    let clash : 1 ≡ 0 = sym (last_byte plain_file (one plain_options grid_file filled_file plain_file again packed)) ∙ plain_last in
    absurd omega (arith, clash)
