-- Patches of an image with Rice codes, by the definitions.
use Rattle.std.proofs.Common.{◌≡◌, ℕ, ◌+◌, ◌-◌, ◌^◌, ◌<◌, ◌≤◌, ◌&&◌, ◌||◌, not, nat_lt, true, false, Bool, flat_map, ℤ, pos, List, [], ◌∷◌, ◌++◌, length, zip, All, codes, decimal, inl, inr, negsuc, Some, None, Ok, refl, sym, ◌∙◌, ap, subst, arith}
use Rattle.std.proofs.lemmas.Fmt.{decimal-digits_of, decimal_digit}
use Rattle.std.proofs.lemmas.List.Elements.{All-cons, All-nil}
use Rattle.std.specs.Fmt.{digits}
use Rattle.std.specs.List.{range_with_len}
use Rattle.fz_base.specs.Refusal.{first_refusal}
use Rattle.fz_base.specs.declared.fault.Fault.{Fault}
use Rattle.fz_bits.specs.Bits.{bit, bits_value, bytes_of, number_bits}
use Rattle.fz_bits.specs.Numbers.{IsNumber}
use Rattle.fz_card.specs.Layout.{padded}
use Rattle.fz_card.specs.Made.{int_card_bytes, numbered_name, right_aligned, text_card_bytes, value_card}
use Rattle.fz_card.specs.Naming.{number_behind}
use Rattle.fz_card.specs.Quoted.{quoted}
use Rattle.fz_card.specs.Reading.{integer_of, logical_of, text_of}
use Rattle.fz_block.specs.Cards.{end_among, first_among}
use Rattle.fz_block.specs.Checks.{header_blocks_of, header_of, hdu_at}
use Rattle.fz_block.specs.Hdus.{cards_of}
use Rattle.fz_block.specs.declared.header.Header.{Header}
use Rattle.fz_block.specs.declared.header.Sort.TheVariants.{Primary}
use Rattle.fz_table.specs.Columns.{column_called, columns_len, first_named}
use Rattle.fz_table.specs.Forms.{elements_len, form_in}
use Rattle.fz_table.specs.Records.{record_of}
use Rattle.fz_table.specs.Tables.{table_checks}
use Rattle.fz_table.specs.declared.record.TileColumn.TheVariants as column
use Rattle.fz_table.specs.declared.table.Table.{Table}
use Rattle.fz_tile.specs.declared.coded.Place2.TheVariants.{Coded}
use Rattle.fz_tile.specs.Codecs.{CanWrite}
use Rattle.fz_tile.specs.Record.{IsRecord}
use Rattle.fz_tile.specs.TileCode.{TileCode, tile_code}
use Rattle.fz_tile.specs.declared.codec.Codec.{Codec}
use Rattle.fz_checks.specs.JobChecks.{axis_inside, image_checks, packed_card_checks}
use Rattle.fz_head.specs.Packable.{is_packed}
use Rattle.fz_head.specs.PackedChecks.{packed_checks}
use Rattle.fz_head.specs.PackedHeader.{descriptor_form, number_card, numbered_word_card}
use Rattle.fz_head.specs.PackedPlan.{plan_of_cards}
use Rattle.fz_head.specs.PlainHeader.{axis_count}
use Rattle.fz_files.specs.HandMade.{block_of, card_of}
use Rattle.fz_files.specs.Packed.{heap_of}
use Rattle.fz_files.specs.PlainFile.{stored}
use Rattle.fz_files.specs.RiceFile.{rice_cards, rice_file, rice_plan}
use Rattle.fz_files.specs.Restored.{image_table, plan_in}
use Rattle.fz_laws.specs.Amends.{amend_of, applied}
use Rattle.fz_laws.specs.PatchChecks.{corner_check, find_hdu_checks, form_check, given_check, inside_checks, last_check, may_be_given, patch_target}
use Rattle.fz_laws.specs.FirstPatchFault.{ArePatchSteps, BoxHasNumbers, RowsHaveNumbers, codes_len, room_check}
use Rattle.fz_laws.specs.PatchForm.{has_form, is_wide_table}
use Rattle.fz_laws.specs.Given.{Given, array_if, box_region, given_by, given_header}
use Rattle.fz_laws.specs.NewNumbers.{box_tiles}
use Rattle.fz_laws.specs.RicePatch.{far_bytes, far_file, far_job, far_steps, flat_file, flat_job, flat_steps, rice_facts}
use Rattle.fz_laws.specs.Writes.{Steps, before_sums, code_writes, column_writes, grown_end, heap_end, heap_writes, new_codes, pcount_writes, row_writes, steps_of, sum_writes, table_plan, table_steps, zero_writes}
use Rattle.fz_laws.proofs.GridTarget.{first_facts}
use Rattle.fz_laws.proofs.Passes.{joined_pass}
use Rattle.fz_laws.proofs.Walked.{HasTable, RowIsOf, by_box, found_table, stands_by, target_by, two_headers}

abbrev rice_table : Table
rice_table = record {
  row_bytes = 16;
  rows = 2;
  rows_at = 5760;
  heap_at = 5792;
  heap_len = 8;
  coded = Some (record { at = 0; wide = false; unit = 1 });
  stored = Some (record { at = 8; wide = false; unit = 2 });
  gzip = None;
}

first_at : hdu_at 0 0 rice_file ≡ Ok first_facts
unfolding hdu_at header_blocks_of header_of end_among first_among integer_of logical_of text_of quoted
first_at = refl

table_at : hdu_at 1 2880 rice_file ≡ Ok rice_facts
unfolding hdu_at header_blocks_of header_of end_among first_among integer_of logical_of text_of quoted numbered_name digits
table_at = refl

cards_are : cards_of (block_of rice_cards) ≡ rice_cards
unfolding end_among
cards_are = refl

plan_of : plan_of_cards rice_cards ≡ rice_plan
unfolding plan_of_cards integer_of text_of quoted number_behind numbered_name digits
plan_of = refl

plan_is : plan_in rice_file rice_facts ≡ rice_plan
plan_is = ap plan_of_cards cards_are ∙ plan_of

table_is : image_table rice_file rice_facts ≡ rice_table
unfolding first_among first_named columns_len column_called elements_len form_in integer_of text_of quoted numbered_name digits end_among
table_is = refl

packed : is_packed (block_of rice_cards) rice_facts ≡ true
unfolding is_packed end_among logical_of
packed = refl

card_checks_none : first_refusal (packed_card_checks rice_facts (block_of rice_cards)) ≡ None
unfolding is_packed end_among logical_of number_behind numbered_name digits
card_checks_none = refl

table_checks_none : first_refusal (table_checks (block_of rice_cards) rice_facts) ≡ None
unfolding first_among first_named columns_len column_called elements_len form_in integer_of text_of quoted numbered_name digits end_among
table_checks_none = refl

plan_checks_none : first_refusal (packed_checks 1 (block_of rice_cards) true) ≡ None
unfolding integer_of logical_of text_of quoted number_behind numbered_name digits end_among
plan_checks_none = refl

checks_none : first_refusal (find_hdu_checks rice_file rice_facts) ≡ None
unfolding integer_of
checks_none =
    joined_pass (packed_card_checks rice_facts (block_of rice_cards)) (image_checks rice_facts (block_of rice_cards) true) card_checks_none
    (joined_pass (table_checks (block_of rice_cards) rice_facts) (packed_checks 1 (block_of rice_cards) true) table_checks_none plan_checks_none)

has_table : HasTable rice_file None first_facts rice_facts
unfolding is_packed
has_table = record { first = first_at; table = table_at; more = refl; passed = refl; packed = packed; checks = checks_none }

form_is : has_form (block_of rice_cards) rice_facts rice_plan ≡ true
unfolding first_among first_named columns_len column_called elements_len form_in integer_of text_of quoted numbered_name digits end_among
form_is = refl

form_none : (form_check rice_file rice_facts).0 ≡ false
form_none = ap (λ p. not (has_form (block_of rice_cards) rice_facts p)) plan_is ∙ ap not form_is

-- ---- the old numbers of a row

-- what is taken of the law of codes
abbrev pub CodesHold : Type 0
CodesHold = (codec : Codec) (bitpix : ℕ) (xs : List ℤ) → CanWrite codec (pos bitpix) → 1 ≤ length xs → length xs ≤ 2 ^ 26 → All (IsNumber bitpix) xs →
    IsRecord codec bitpix (tile_code codec bitpix xs).place (length (tile_code codec bitpix xs).bytes) (tile_code codec bitpix xs).bytes xs

abbrev old_row : List ℤ
old_row = pos 0 ∷ pos 1 ∷ pos 0 ∷ pos 1 ∷ []

abbrev old_bytes : List ℕ
old_bytes = 0x00 ∷ 0x00 ∷ 0x19 ∷ 0x48 ∷ []

old_code : tile_code rice_plan.codec 16 old_row ≡ record { place = Coded; bytes = old_bytes }
unfolding number_bits bit bits_value bytes_of
old_code = refl

old_numbers : All (IsNumber 16) old_row
old_numbers =
    All-cons (IsNumber 16) (pos 0) (pos 1 ∷ pos 0 ∷ pos 1 ∷ []) (omega arith)
    (All-cons (IsNumber 16) (pos 1) (pos 0 ∷ pos 1 ∷ []) (omega arith)
    (All-cons (IsNumber 16) (pos 0) (pos 1 ∷ []) (omega arith)
    (All-cons (IsNumber 16) (pos 1) [] (omega arith) (All-nil (IsNumber 16)))))

same_count : (m n : ℕ) → pos m ≡ pos n → m ≡ n
same_count m n e = cc

not_64 : pos 16 ≡ pos 64 → ⊥
not_64 e = let same = same_count 16 64 e in omega arith

can_write : CanWrite rice_plan.codec (pos 16)
can_write = record { size = inr (inl refl); plain = λ e. absurd (not_64 e); codes = ((omega arith, omega arith), refl) }

old_means : CodesHold → IsRecord rice_plan.codec 16 Coded 4 old_bytes old_row
old_means holds =
    subst (λ (e : TileCode). IsRecord rice_plan.codec 16 e.place (length e.bytes) e.bytes old_row) old_code (holds rice_plan.codec 16 old_row can_write (omega arith) (omega arith) old_numbers)

row_0 : CodesHold → RowIsOf rice_file 1 rice_plan rice_table 0 old_row
unfolding record_of
row_0 holds = record { found = record { column = column.Coded; start = 5792; total = 4; read = 4 }; chosen = refl; count = refl; means = old_means holds }

row_1 : CodesHold → RowIsOf rice_file 1 rice_plan rice_table 1 old_row
unfolding record_of
row_1 holds = record { found = record { column = column.Coded; start = 5796; total = 4; read = 4 }; chosen = refl; count = refl; means = old_means holds }

-- ---- four pixels whose code is not shorter

abbrev far_facts : Header
far_facts = record {
  hdu = 0;
  start = 0;
  cards = 5;
  blocks = 1;
  sort = Primary;
  bitpix = pos 16;
  axes = record { n = 2; len = 4 ∷ 1 ∷ 0 ∷ 0 ∷ 0 ∷ 0 ∷ 0 ∷ 0 ∷ 0 ∷ [] };
  pcount = 0;
  gcount = 1;
  data_len = 8;
}

far_at : given_header far_file ≡ Ok far_facts
unfolding hdu_at header_blocks_of header_of end_among first_among integer_of logical_of text_of quoted numbered_name digits
far_at = refl

abbrev far_given : Given
far_given = record { corner = 0 ∷ 1 ∷ []; array = record { lengths = 4 ∷ 1 ∷ []; numbers = pos 0 ∷ negsuc 32767 ∷ pos 5 ∷ negsuc 6 ∷ [] } }

far_given_is : given_by far_file far_job ≡ far_given
far_given_is = (λ j. record { corner = 0 ∷ 1 ∷ []; array = array_if far_file (far_at j) }) ∙ refl

far_last_none : (last_check rice_file rice_facts).0 ≡ false
far_last_none = refl

far_corner_none : (corner_check rice_file rice_facts far_job).0 ≡ false
unfolding integer_of end_among
far_corner_none = refl

far_given_none : (given_check rice_file far_file rice_facts).0 ≡ false
far_given_none = (λ j. not (may_be_given (plan_is j) (far_at j))) ∙ refl

abbrev inside_of : Given → List (Bool × Fault)
inside_of g = flat_map (λ i. axis_inside 1 (cards_of (block_of rice_cards)) (box_region g) i ∷ []) (range_with_len 0 (axis_count (cards_of (block_of rice_cards))))

far_inside_none : first_refusal (inside_of far_given) ≡ None
unfolding integer_of numbered_name digits end_among
far_inside_none = refl

far_inside_here : first_refusal (inside_checks rice_file far_file rice_facts far_job) ≡ None
far_inside_here = (λ j. first_refusal (inside_of (far_given_is j))) ∙ far_inside_none

far_target : patch_target rice_file far_file far_job ≡ Ok rice_facts
far_target =
    target_by rice_file far_file far_job (first_facts ∷ rice_facts ∷ []) rice_facts None (two_headers rice_file None first_facts rice_facts has_table refl) (found_table rice_file None first_facts rice_facts has_table)
    (by_box rice_file far_file rice_facts far_job far_last_none form_none far_corner_none far_given_none ∙ far_inside_here)

-- ---- the tiles

abbrev far_tiles : List ℕ
far_tiles = 1 ∷ []

far_box_is : box_tiles rice_plan far_given ≡ far_tiles
far_box_is = refl

far_tiles_here : box_tiles (plan_in rice_file rice_facts) (given_by far_file far_job) ≡ far_tiles
far_tiles_here = (λ j. box_tiles (plan_is j) (far_given_is j)) ∙ far_box_is

abbrev far_olds : List (List ℤ)
far_olds = old_row ∷ []

far_rows_have : CodesHold → RowsHaveNumbers rice_file rice_facts far_tiles far_olds
far_rows_have holds = (stands_by rice_file rice_facts rice_plan rice_table 1 old_row plan_is table_is (row_1 holds), tt)

far_numbers : CodesHold → BoxHasNumbers rice_file rice_facts (given_by far_file far_job) far_olds
far_numbers holds = subst (λ ts. RowsHaveNumbers rice_file rice_facts ts far_olds) (sym far_tiles_here) (far_rows_have holds)

-- ---- the writes

abbrev far_codes : List TileCode
far_codes = stored far_bytes ∷ []

far_codes_are : new_codes rice_plan far_given far_tiles far_olds ≡ far_codes
unfolding number_bits bit bits_value bytes_of
far_codes_are = refl

far_codes_here : new_codes (plan_in rice_file rice_facts) (given_by far_file far_job) (box_tiles (plan_in rice_file rice_facts) (given_by far_file far_job)) far_olds ≡ far_codes
far_codes_here = (λ j. new_codes (plan_is j) (far_given_is j) (far_tiles_here j) far_olds) ∙ far_codes_are

not_wide : is_wide_table (block_of rice_cards) ≡ false
unfolding first_among first_named columns_len column_called elements_len form_in integer_of text_of quoted numbered_name digits end_among
not_wide = refl

far_heap_has : length (heap_of far_codes) ≡ 8
unfolding heap_of
far_heap_has = refl

far_len_is : codes_len rice_file rice_facts (given_by far_file far_job) far_olds ≡ 8
far_len_is = ap (λ es. length (heap_of es)) far_codes_here ∙ far_heap_has

far_room : first_refusal (room_check rice_file rice_facts (codes_len rice_file rice_facts (given_by far_file far_job) far_olds) ∷ []) ≡ None
far_room =
    (λ j. first_refusal ((
      (not (not_wide j) && nat_lt 2147483647 (8 + far_len_is j)) || (nat_lt (10 ^ 18 - 1) (8 + far_len_is j) || nat_lt (2 ^ 62) (grown_end rice_facts (far_len_is j))),
      (room_check rice_file rice_facts 0).1,
    )
    ∷ []))
    ∙ refl

far_heap_is : heap_writes rice_file rice_facts far_codes ≡ far_steps.heap
unfolding heap_of
far_heap_is = (λ j. code_writes (heap_end (table_is j)) far_codes ++ zero_writes (heap_end (table_is j) + 8) (grown_end rice_facts 8)) ∙ refl

far_count : number_card (codes "PCOUNT") 16 ≡ card_of (codes "PCOUNT  =                   16")
unfolding int_card_bytes
far_count = ap (λ d. value_card (padded (codes "PCOUNT")) (right_aligned 20 d)) (decimal-digits_of 16 (omega arith) (omega arith))

far_pcount_is : pcount_writes rice_file rice_facts 8 ≡ far_steps.pcount
unfolding integer_of
far_pcount_is = ap (λ c. amend_of 3280 c ∷ []) far_count

name_2 : numbered_name (codes "TFORM") 2 ≡ padded (codes "TFORM2")
unfolding numbered_name
name_2 = ap (λ d. padded (codes "TFORM" ++ d)) (decimal_digit 2 (omega arith))

made_form : numbered_word_card (codes "TFORM") 2 (descriptor_form false (codes "I") 4) ≡ card_of (codes "TFORM2  = '1PI(4)  '")
unfolding text_card_bytes
made_form = λ j. text_card_bytes (name_2 j) (codes "1P" ++ codes "I" ++ codes "(" ++ decimal_digit 4 four j ++ codes ")")
  where
    four : 4 < 10
    four = omega arith

far_forms_are : column_writes rice_file rice_facts far_tiles far_codes ≡ amend_of 3760 (numbered_word_card (codes "TFORM") 2 (descriptor_form false (codes "I") 4)) ∷ []
unfolding plan_of_cards number_behind first_among first_named columns_len column_called elements_len form_in integer_of text_of quoted numbered_name digits end_among
far_forms_are = refl

far_forms_is : column_writes rice_file rice_facts far_tiles far_codes ≡ far_steps.forms
far_forms_is = far_forms_are ∙ ap (λ c. amend_of 3760 c ∷ []) made_form

plan_here : table_plan rice_file rice_facts ≡ rice_plan
plan_here = (λ j. record (plan_is j) { wide = not_wide j }) ∙ refl

far_rows_are : row_writes (image_table rice_file rice_facts) (table_plan rice_file rice_facts) (image_table rice_file rice_facts).heap_len (zip far_tiles far_codes) ≡ far_steps.rows
far_rows_are = (λ j. row_writes (table_is j) (plan_here j) (table_is j).heap_len (zip far_tiles far_codes)) ∙ refl

far_sums_are : sum_writes (applied (before_sums far_steps) rice_file) rice_facts ≡ []
unfolding text_of quoted end_among
far_sums_are = refl

far_table_steps_are : table_steps rice_file rice_facts far_tiles far_codes ≡ far_steps
unfolding heap_of
far_table_steps_are = λ j. record { heap = far_heap_is j; pcount = far_pcount_is j; forms = far_forms_is j; rows = far_rows_are j; sums = [] }

abbrev far_with_sums : Steps → Steps
far_with_sums s = record s { sums = sum_writes (applied (before_sums s) rice_file) rice_facts }

far_steps_are : steps_of rice_file rice_facts (given_by far_file far_job) far_olds ≡ far_steps
unfolding steps_of
far_steps_are =
    (λ j. far_with_sums (table_steps rice_file rice_facts (far_tiles_here j) (far_codes_here j)))
    ∙ (ap far_with_sums far_table_steps_are
    ∙ (λ j. record far_steps { sums = far_sums_are j }))

pub far_are : CodesHold → ArePatchSteps rice_file far_file far_job rice_facts far_steps
far_are holds = record { target = far_target; olds = far_olds; numbers = far_numbers holds; room = far_room; steps_are = sym far_steps_are }

-- ---- four pixels 5

abbrev flat_facts : Header
flat_facts = record {
  hdu = 0;
  start = 0;
  cards = 5;
  blocks = 1;
  sort = Primary;
  bitpix = pos 16;
  axes = record { n = 2; len = 4 ∷ 1 ∷ 0 ∷ 0 ∷ 0 ∷ 0 ∷ 0 ∷ 0 ∷ 0 ∷ [] };
  pcount = 0;
  gcount = 1;
  data_len = 8;
}

flat_at : given_header flat_file ≡ Ok flat_facts
unfolding hdu_at header_blocks_of header_of end_among first_among integer_of logical_of text_of quoted numbered_name digits
flat_at = refl

abbrev flat_given : Given
flat_given = record { corner = 0 ∷ 0 ∷ []; array = record { lengths = 4 ∷ 1 ∷ []; numbers = pos 5 ∷ pos 5 ∷ pos 5 ∷ pos 5 ∷ [] } }

flat_given_is : given_by flat_file flat_job ≡ flat_given
flat_given_is = (λ j. record { corner = 0 ∷ 0 ∷ []; array = array_if flat_file (flat_at j) }) ∙ refl

flat_last_none : (last_check rice_file rice_facts).0 ≡ false
flat_last_none = refl

flat_corner_none : (corner_check rice_file rice_facts flat_job).0 ≡ false
unfolding integer_of end_among
flat_corner_none = refl

flat_given_none : (given_check rice_file flat_file rice_facts).0 ≡ false
flat_given_none = (λ j. not (may_be_given (plan_is j) (flat_at j))) ∙ refl

flat_inside_none : first_refusal (inside_of flat_given) ≡ None
unfolding integer_of numbered_name digits end_among
flat_inside_none = refl

flat_inside_here : first_refusal (inside_checks rice_file flat_file rice_facts flat_job) ≡ None
flat_inside_here = (λ j. first_refusal (inside_of (flat_given_is j))) ∙ flat_inside_none

flat_target : patch_target rice_file flat_file flat_job ≡ Ok rice_facts
flat_target =
    target_by rice_file flat_file flat_job (first_facts ∷ rice_facts ∷ []) rice_facts None (two_headers rice_file None first_facts rice_facts has_table refl) (found_table rice_file None first_facts rice_facts has_table)
    (by_box rice_file flat_file rice_facts flat_job flat_last_none form_none flat_corner_none flat_given_none ∙ flat_inside_here)

-- ---- the tiles

abbrev flat_tiles : List ℕ
flat_tiles = 0 ∷ []

flat_box_is : box_tiles rice_plan flat_given ≡ flat_tiles
flat_box_is = refl

flat_tiles_here : box_tiles (plan_in rice_file rice_facts) (given_by flat_file flat_job) ≡ flat_tiles
flat_tiles_here = (λ j. box_tiles (plan_is j) (flat_given_is j)) ∙ flat_box_is

abbrev flat_olds : List (List ℤ)
flat_olds = old_row ∷ []

flat_rows_have : CodesHold → RowsHaveNumbers rice_file rice_facts flat_tiles flat_olds
flat_rows_have holds = (stands_by rice_file rice_facts rice_plan rice_table 0 old_row plan_is table_is (row_0 holds), tt)

flat_numbers : CodesHold → BoxHasNumbers rice_file rice_facts (given_by flat_file flat_job) flat_olds
flat_numbers holds = subst (λ ts. RowsHaveNumbers rice_file rice_facts ts flat_olds) (sym flat_tiles_here) (flat_rows_have holds)

-- ---- the writes

abbrev flat_codes : List TileCode
flat_codes = record { place = Coded; bytes = 0x00 ∷ 0x05 ∷ 0x00 ∷ [] } ∷ []

flat_codes_are : new_codes rice_plan flat_given flat_tiles flat_olds ≡ flat_codes
unfolding number_bits bit bits_value bytes_of
flat_codes_are = refl

flat_codes_here : new_codes (plan_in rice_file rice_facts) (given_by flat_file flat_job) (box_tiles (plan_in rice_file rice_facts) (given_by flat_file flat_job)) flat_olds ≡ flat_codes
flat_codes_here = (λ j. new_codes (plan_is j) (flat_given_is j) (flat_tiles_here j) flat_olds) ∙ flat_codes_are

flat_heap_has : length (heap_of flat_codes) ≡ 3
unfolding heap_of
flat_heap_has = refl

flat_len_is : codes_len rice_file rice_facts (given_by flat_file flat_job) flat_olds ≡ 3
flat_len_is = ap (λ es. length (heap_of es)) flat_codes_here ∙ flat_heap_has

flat_room : first_refusal (room_check rice_file rice_facts (codes_len rice_file rice_facts (given_by flat_file flat_job) flat_olds) ∷ []) ≡ None
flat_room =
    (λ j. first_refusal ((
      (not (not_wide j) && nat_lt 2147483647 (8 + flat_len_is j)) || (nat_lt (10 ^ 18 - 1) (8 + flat_len_is j) || nat_lt (2 ^ 62) (grown_end rice_facts (flat_len_is j))),
      (room_check rice_file rice_facts 0).1,
    )
    ∷ []))
    ∙ refl

flat_heap_is : heap_writes rice_file rice_facts flat_codes ≡ flat_steps.heap
unfolding heap_of
flat_heap_is = (λ j. code_writes (heap_end (table_is j)) flat_codes ++ zero_writes (heap_end (table_is j) + 3) (grown_end rice_facts 3)) ∙ refl

flat_count : number_card (codes "PCOUNT") 11 ≡ card_of (codes "PCOUNT  =                   11")
unfolding int_card_bytes
flat_count = ap (λ d. value_card (padded (codes "PCOUNT")) (right_aligned 20 d)) (decimal-digits_of 11 (omega arith) (omega arith))

flat_pcount_is : pcount_writes rice_file rice_facts 3 ≡ flat_steps.pcount
unfolding integer_of
flat_pcount_is = ap (λ c. amend_of 3280 c ∷ []) flat_count

flat_forms_are : column_writes rice_file rice_facts flat_tiles flat_codes ≡ []
unfolding plan_of_cards number_behind first_among first_named columns_len column_called elements_len form_in integer_of text_of quoted numbered_name digits end_among
flat_forms_are = refl

flat_rows_are : row_writes (image_table rice_file rice_facts) (table_plan rice_file rice_facts) (image_table rice_file rice_facts).heap_len (zip flat_tiles flat_codes) ≡ flat_steps.rows
flat_rows_are = (λ j. row_writes (table_is j) (plan_here j) (table_is j).heap_len (zip flat_tiles flat_codes)) ∙ refl

flat_sums_are : sum_writes (applied (before_sums flat_steps) rice_file) rice_facts ≡ []
unfolding text_of quoted end_among
flat_sums_are = refl

flat_table_steps_are : table_steps rice_file rice_facts flat_tiles flat_codes ≡ flat_steps
unfolding heap_of
flat_table_steps_are = λ j. record { heap = flat_heap_is j; pcount = flat_pcount_is j; forms = flat_forms_are j; rows = flat_rows_are j; sums = [] }

abbrev flat_with_sums : Steps → Steps
flat_with_sums s = record s { sums = sum_writes (applied (before_sums s) rice_file) rice_facts }

flat_steps_are : steps_of rice_file rice_facts (given_by flat_file flat_job) flat_olds ≡ flat_steps
unfolding steps_of
flat_steps_are =
    (λ j. flat_with_sums (table_steps rice_file rice_facts (flat_tiles_here j) (flat_codes_here j)))
    ∙ (ap flat_with_sums flat_table_steps_are
    ∙ (λ j. record flat_steps { sums = flat_sums_are j }))

pub flat_are : CodesHold → ArePatchSteps rice_file flat_file flat_job rice_facts flat_steps
flat_are holds = record { target = flat_target; olds = flat_olds; numbers = flat_numbers holds; room = flat_room; steps_are = sym flat_steps_are }
